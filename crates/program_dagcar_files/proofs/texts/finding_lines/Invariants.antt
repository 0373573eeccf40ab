use Rattle.std.proofs.Common.{◌≡◌, take, flat_map}
use Rattle.program_dagcar_files.specs.Indexes.{finding_line}
use Rattle.program_dagcar_files.proofs.texts.finding_lines.Given as goal

abbrev pub invariant-loop-entry : goal.invariant-loop-entry
invariant-loop-entry l = l.lines.items ≡ flat_map (finding_line l.word) (take l.entry-index l.entries)
