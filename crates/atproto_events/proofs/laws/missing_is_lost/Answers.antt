use Rattle.atproto_events.proofs.Losing.{missing_is_lost}
use Rattle.atproto_events.proofs.laws.missing_is_lost.Goals as goal

pub returns : goal.returns
returns c = missing_is_lost
