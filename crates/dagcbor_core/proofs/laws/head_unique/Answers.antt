use Rattle.dagcbor_core.proofs.Heads as heads
use Rattle.dagcbor_core.proofs.laws.head_unique.Goals as goal

pub returns : goal.returns
returns c = heads.head_unique
