use Rattle.std.proofs.Common.{◌∙◌, sym, subst, MatchOption}
use Rattle.ipld_links.specs.Blocks.{HasKnownLinks}
use Rattle.ipld_links.specs.Names.{IsInline}
use Rattle.ipld_links.specs.Verdicts.{HidesLinks}
use Rattle.ipld_links.proofs.Reaching.{known_inside}
use Rattle.ipld_links.proofs.reach.hidden_in_name.Goals as goal

pub returns : goal.returns
returns c = λ all none.
    let inline : IsInline c.args.name.now = sym c.hash_code.ensures ∙ c.if-hash_code-ne-IDENTITY.false in
    known_inside c.hidden_links.result all c.args.name.now none inline
    (subst (λ n. MatchOption c.hidden_links.result (HasKnownLinks n c.args.name.now.digest) (HidesLinks n c.args.name.now.digest)) c.codec.ensures
    (subst (λ b. MatchOption c.hidden_links.result (HasKnownLinks c.codec.result b) (HidesLinks c.codec.result b)) c.digest.ensures c.hidden_links.ensures))
