use Rattle.std.proofs.Common.{ℕ, List, OnOk, subst}
use Rattle.program_dagcbor.specs.Answers.{AppendsLine}
use Rattle.program_dagcbor.proofs.Said.{line_said}
use Rattle.program_dagcbor.proofs.answer.push_answer.Goals as goal

pub returns-else-is_err-clause-written : goal.returns-else-is_err-clause-written
returns-else-is_err-clause-written c = subst
    (λ (line : List ℕ). OnOk c.push_said_of-pushed.result (AppendsLine line c.args.out.now.items c.push_said_of-pushed.new.out.items))
    (line_said c.args.command _ c.in_ok-is_text.is_text _ _ c.deref.ensures.value c.in_ok-is_text.ensures)
    c.push_said_of-pushed.ensures.written
