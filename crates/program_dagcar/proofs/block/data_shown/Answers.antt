use Rattle.std.proofs.Common.{inr}
use Rattle.program_records.proofs.Telling.{if_ok}
use Rattle.program_dagcar.proofs.Shown.{node_shown, unread_shown}
use Rattle.program_dagcar.proofs.block.data_shown.Goals as goal

pub returns-in-Some : goal.returns-in-Some
returns-in-Some c = node_shown c.args.bytes.now _ _ _ c.in_ok-said.ensures c.if-said.false _ _ _ (rw c.in-Some.is at c.in_ok-answer.ensures)

pub returns-in-None : goal.returns-in-None
returns-in-None c = if_ok c.unread_answer.result c.unread_answer.ensures (λ p h. inr (inr (rw c.in-None.is at c.in_ok-answer.ensures, h (unread_shown c.args.bytes.now _ _ _ c.in_ok-said.ensures c.if-said.false))))
