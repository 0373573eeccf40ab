use Rattle.dagcbor_read.proofs.Streaming.{unique}
use Rattle.dagcbor_read.proofs.laws.stream_unique.Goals as goal

pub returns : goal.returns
returns g c = λ steps. unique g.T.Shown.shape steps
