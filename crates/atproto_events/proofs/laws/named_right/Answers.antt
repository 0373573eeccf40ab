use Rattle.atproto_events.proofs.Named.{named_right}
use Rattle.atproto_events.proofs.laws.named_right.Goals as goal

pub returns : goal.returns
returns c = named_right
