use Rattle.std.proofs.Common.{arith}
use Rattle.program_index.proofs.Copying.{copied_more, copied_stopped, copied_all}
use Rattle.program_shared.specs.declared.fault.ToolError.{ToolError}
use Rattle.program_index.proofs.copy.copy_from.Goals as goal

pub loop-done-preserved : goal.loop-done-preserved
loop-done-preserved g c = (omega arith, copied_more (g.S.ReadAt.bytes c.args.source.now) _ _ _ c.args.begin c.loop-done.done c.min-length.result c.copy_piece.result c.in_ok-copy_piece.field-0 c.in_ok-copy_piece.was c.loop-done.invariant.1 c.copy_piece.ensures)

pub returns-in_err-copy_piece : goal.returns-in_err-copy_piece
returns-in_err-copy_piece g c = copied_stopped _ (g.S.ReadAt.bytes c.args.source.now) _ _ _ c.args.begin c.loop-done.done c.min-length.result c.args.count c.copy_piece.result c.from_residual.result c.from_residual.ensures.1 (omega arith) c.loop-done.invariant.1 c.copy_piece.ensures

pub returns : goal.returns
returns g c = copied_all (Unit {0}) ToolError tt (g.S.ReadAt.bytes c.args.source.now) _ _ c.args.begin c.loop-done.done c.args.count (omega arith) c.loop-done.invariant.1
