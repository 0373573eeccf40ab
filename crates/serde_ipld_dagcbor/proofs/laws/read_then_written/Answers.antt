use Rattle.serde_ipld_dagcbor.proofs.RoundTrips as round_trips
use Rattle.serde_ipld_dagcbor.proofs.laws.read_then_written.Goals as goal

pub returns : goal.returns
returns c = round_trips.read_then_written
