use Rattle.std.proofs.Common.{arith}
use Rattle.dagcbor_heads.proofs.Writing.{next_part, exit_part, last_part}
use Rattle.dagcbor_write.specs.Answers.{NoMessage}
use Rattle.dagcbor_write.proofs.Messages.{exit_tells}
use Rattle.types_schema.proofs.PartRows.{begin_row, row_IsTree, head_silent}
use Rattle.types_schema.proofs.part_row.write_parts.Goals as goal

pub returns-in_err-write_head-clause-written : goal.returns-in_err-write_head-clause-written
returns-in_err-write_head-clause-written g c =
    exit_part (begin_row (g.P.PartRow.trees c.args.parts) _ _ c.count.ensures.counted) _ _ _ c.from_residual.ensures.1 c.in_err-write_head.ensures.written

pub returns-clause-written : goal.returns-clause-written
returns-clause-written g c =
    let w = next_part (begin_row (g.P.PartRow.trees c.args.parts) _ _ c.count.ensures.counted) _ c.in_ok-write_head.ensures.written in
    last_part w _ _ c.write_each.ensures.written

pub returns-clause-well_formed : goal.returns-clause-well_formed
returns-clause-well_formed g c = row_IsTree (g.P.PartRow.trees c.args.parts) _ c.write_each.ensures.well_formed

pub returns-in_err-write_head-clause-told : goal.returns-in_err-write_head-clause-told
returns-in_err-write_head-clause-told g c =
    exit_tells NoMessage (g.P.PartRow.message c.args.parts) _ _ c.from_residual.ensures.1 (λ m k. absurd k) (head_silent _ (g.W.Write.written c.args.ser.now) (g.W.Write.written c.write_head.new.ser) _ (omega arith) c.in_err-write_head.ensures.written)
