use Rattle.dagcbor_heads.proofs.Windows.{head_begins}
use Rattle.dagcbor_heads.proofs.window.whole_head.Goals as goal

pub returns : goal.returns
returns c = head_begins _ c.in_ok-first.ensures.cases.0 c.in_ok-major.ensures
