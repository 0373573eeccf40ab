use Rattle.ipld_tree.proofs.CidFaults.{fault_no_cid, one_fault}
use Rattle.ipld_tree.proofs.laws.cid_faults.Goals as goal

pub returns : goal.returns
returns _ = λ b e h. (fault_no_cid e b h, λ f g. one_fault e f b h g)
