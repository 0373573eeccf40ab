use Rattle.program_parts.specs.Lines.{SaysBoth}
use Rattle.program_inspect.specs.Inspecting.{IsInspected}
use Rattle.program_dagcar_files.proofs.Getting.{from_first}
use Rattle.program_dagcar_files.proofs.indexes.write_with.Goals as goal

pub returns-in-Ok : goal.returns-in-Ok
returns-in-Ok g c = from_first (g.S.ReadAt.bytes c.args.source.now) _ (λ b. SaysBoth (IsInspected c.args.form c.args.index b) (g.W.Write.contents c.args.output.now) (g.V.Write.contents c.args.errors.now) c.write_inspected.result (g.W.Write.contents c.write_inspected.new.output) (g.V.Write.contents c.write_inspected.new.errors)) c.in-Ok.ensures c.write_inspected.ensures
