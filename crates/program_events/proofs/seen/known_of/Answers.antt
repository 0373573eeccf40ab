use Rattle.std.proofs.Common.{ap, ◌∙◌, Some, option_map}
use Rattle.program_events.specs.Seen.{root_kept}
use Rattle.program_events.proofs.seen.known_of.Goals as goal

pub returns-in-Some : goal.returns-in-Some
returns-in-Some c = ap (λ r. Some (c.in-Some.last.now.root, r)) c.as_str.ensures.value ∙ ap (option_map root_kept) c.in-Some.ensures.value

pub returns-in-None : goal.returns-in-None
returns-in-None c = ap (option_map root_kept) c.in-None.ensures.value
