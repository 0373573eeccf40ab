use Rattle.program_parts.proofs.Saying.{both_of}
use Rattle.program_inspect.specs.Inspecting.{IsInspected}
use Rattle.program_dagcar_files.specs.Indexes.{IsInspectedHere}
use Rattle.program_dagcar_files.proofs.Getting.{both_known}
use Rattle.program_dagcar_files.proofs.indexes.write_inspected_here.Goals as goal

pub returns : goal.returns
returns g c = both_known (g.S.ReadAt.bytes c.args.source.now) c.in_ok-judged.ensures c.write_with.ensures (λ b h k.
    both_of (IsInspected c.args.form c.word_of.result b) (IsInspectedHere c.args.form b) _ _ c.write_with.result _ _ (λ well said told s. (c.in_ok-judged.judged, c.word_of.result, h, c.word_of.ensures, s)) k)
