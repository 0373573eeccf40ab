use Rattle.std.proofs.Common.{Ok, Err, ap, refl, rules}
use Rattle.program_dagcar_files.proofs.Indexed.{checked_failed, checked_so}
use Rattle.program_dagcar_files.proofs.indexes.write_checked.Goals as goal

pub returns-in_err-well : goal.returns-in_err-well
returns-in_err-well g c = let failed = checked_failed (g.S.ReadAt.bytes c.args.source.now) (g.W.Write.contents c.args.output.now) (g.V.Write.contents c.args.errors.now) (g.W.Write.contents c.write_verdicts.new.output) (g.V.Write.contents c.write_verdicts.new.errors) c.in_err-well.field-0.0 c.in_err-well.ensures in search (failed, rules)

pub returns-in_err-right : goal.returns-in_err-right
returns-in_err-right g c = let failed = checked_so (g.S.ReadAt.bytes c.args.source.now) (g.W.Write.contents c.args.output.now) (g.V.Write.contents c.args.errors.now) (g.W.Write.contents c.write_verdicts.new.output) (g.V.Write.contents c.write_verdicts.new.errors) (g.W.Write.contents c.write_beside.new.output) (g.V.Write.contents c.write_beside.new.errors) c.in_ok-well.well (Err c.in_err-right.field-0.0) (Err c.in_err-right.field-0.0) refl c.in_ok-well.ensures c.in_err-right.ensures in search (failed, rules)

pub returns : goal.returns
returns g c = checked_so (g.S.ReadAt.bytes c.args.source.now) (g.W.Write.contents c.args.output.now) (g.V.Write.contents c.args.errors.now) (g.W.Write.contents c.write_verdicts.new.output) (g.V.Write.contents c.write_verdicts.new.errors) (g.W.Write.contents c.write_beside.new.output) (g.V.Write.contents c.write_beside.new.errors) c.in_ok-well.well (Ok c.in_ok-right.right) (Ok c.both.result) (ap Ok c.both.ensures) c.in_ok-well.ensures c.in_ok-right.ensures
