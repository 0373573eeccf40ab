use Rattle.serde_ipld_dagcbor.proofs.RoundTrips as round_trips
use Rattle.serde_ipld_dagcbor.proofs.laws.written_then_read.Goals as goal

pub returns : goal.returns
returns c = round_trips.written_then_read
