use Rattle.atproto_mst.proofs.Binding.{records_bind}
use Rattle.atproto_mst.proofs.laws.records_bind.Goals as goal

pub returns : goal.returns
returns c = records_bind
