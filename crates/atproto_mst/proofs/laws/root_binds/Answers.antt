use Rattle.atproto_mst.proofs.Binding.{root_binds}
use Rattle.atproto_mst.proofs.laws.root_binds.Goals as goal

pub returns : goal.returns
returns c = root_binds
