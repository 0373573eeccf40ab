use Rattle.std.proofs.Common.{sym, ◌∙◌, subst, IfOk}
use Rattle.ipld_links.specs.Blocks.{HasLinks}
use Rattle.ipld_links.specs.Reaching.{AreLinksOf}
use Rattle.ipld_links.proofs.Reaching.{inline_links}
use Rattle.ipld_links.proofs.reach.links_in_name.Goals as goal

pub returns : goal.returns
returns c =
    inline_links c.links_in.result c.args.name.now (sym c.hash_code.ensures ∙ c.if-hash_code-ne-IDENTITY.false)
    (subst (λ n. IfOk c.links_in.result (λ v. AreLinksOf (HasLinks n c.args.name.now.digest) v.items)) c.codec.ensures (subst (λ b. IfOk c.links_in.result (λ v. AreLinksOf (HasLinks c.codec.result b) v.items)) c.digest.ensures c.links_in.ensures))
