use Rattle.atproto_events.proofs.Led.{undone_right}
use Rattle.atproto_events.proofs.laws.undone_right.Goals as goal

pub returns : goal.returns
returns c = undone_right
