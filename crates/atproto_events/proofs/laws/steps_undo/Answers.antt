use Rattle.atproto_events.proofs.Filling.{steps_undo}
use Rattle.atproto_events.proofs.laws.steps_undo.Goals as goal

pub returns : goal.returns
returns c = steps_undo
