use Rattle.program_dagcbor.proofs.Said.{links_refused}
use Rattle.program_dagcbor.proofs.answer.push_link_line.Goals as goal

pub returns-in_default : goal.returns-in_default
returns-in_default c = links_refused _ _ c.in-Err.refusal c.in_default.not-OutOfMemory c.in-Err.ensures.decoded c.push_refusal.ensures
