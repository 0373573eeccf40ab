use Rattle.atproto_events.proofs.Opened.{opened_fill}
use Rattle.atproto_events.proofs.laws.opened_fill.Goals as goal

pub returns : goal.returns
returns c = opened_fill
