use Rattle.std.proofs.Common.{refl}
use Rattle.ipld_tree.proofs.Cids.{is_same}
use Rattle.ipld_tree.proofs.laws.cid_equality.Goals as goal

pub returns : goal.returns
returns _ = λ c d p q. is_same c d _ p q refl
