use Rattle.program_dagcbor.proofs.Said.{check_refused}
use Rattle.program_dagcbor.proofs.answer.push_verdict.Goals as goal

pub returns-in-Err : goal.returns-in-Err
returns-in-Err c = check_refused _ _ c.in-Err.refusal c.in-Err.ensures.decoded c.push_refusal.ensures
