use Rattle.dagcbor_read.proofs.StreamRuns.{exact}
use Rattle.dagcbor_read.proofs.laws.streams_exact.Goals as goal
use Rattle.dagcbor_read.specs.Streams.{stream_state}

pub returns : goal.returns
returns g c = exact _ (stream_state g.R.Read.reading) g.T.Shown.meaning g.T.Shown.shape g.T.Deserialize.lies
