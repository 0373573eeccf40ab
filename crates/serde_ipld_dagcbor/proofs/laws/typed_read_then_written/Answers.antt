use Rattle.serde_ipld_dagcbor.proofs.RoundTrips as round_trips
use Rattle.serde_ipld_dagcbor.proofs.laws.typed_read_then_written.Goals as goal

pub returns : goal.returns
returns g c = round_trips.typed_read_then_written g.T.Shown.meaning g.T.Shown.shape g.T.Serialize.tree
