use Rattle.std.proofs.Common.{ap, ◌∙◌, subst, option_map, MatchOption}
use Rattle.ipld_links.specs.Blocks.{HasKnownLinks}
use Rattle.ipld_links.specs.Verdicts.{HidesLinks}
use Rattle.ipld_links.proofs.Reaching.{known_bytes}
use Rattle.ipld_links.proofs.reach.hidden_under.Goals as goal

pub returns-in-Some : goal.returns-in-Some
returns-in-Some c = λ all at.
    known_bytes c.hidden_links.result all c.args.name.now c.in-Some.bytes.now (at ∙ ap (option_map (λ b. b.now)) c.in-Some.is)
    (subst (λ n. MatchOption c.hidden_links.result (HasKnownLinks n c.in-Some.bytes.now) (HidesLinks n c.in-Some.bytes.now)) c.codec.ensures c.hidden_links.ensures)
