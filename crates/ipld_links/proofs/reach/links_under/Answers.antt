use Rattle.std.proofs.Common.{ap, ◌∙◌, subst, IfOk, option_map}
use Rattle.ipld_links.specs.Blocks.{HasLinks}
use Rattle.ipld_links.specs.Reaching.{AreLinksOf}
use Rattle.ipld_links.proofs.Reaching.{named_links, links_inside}
use Rattle.ipld_links.proofs.reach.links_under.Goals as goal

pub returns-in-Some : goal.returns-in-Some
returns-in-Some c = λ all at.
    named_links c.links_in.result all c.args.name.now c.in-Some.bytes.now (at ∙ ap (option_map (λ b. b.now)) c.in-Some.is)
    (subst (λ n. IfOk c.links_in.result (λ v. AreLinksOf (HasLinks n c.in-Some.bytes.now) v.items)) c.codec.ensures c.links_in.ensures)

pub returns-in-None : goal.returns-in-None
returns-in-None c = λ all at. links_inside c.links_in_name.result all c.args.name.now (at ∙ ap (option_map (λ b. b.now)) c.in-None.is) c.links_in_name.ensures
