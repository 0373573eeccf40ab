use Rattle.std.proofs.Common.{◌≡◌, take, flat_map}
use Rattle.program_dagcar_files.specs.Indexes.{entry_line}
use Rattle.program_dagcar_files.proofs.texts.entry_lines.Given as goal

abbrev pub invariant-loop-entry : goal.invariant-loop-entry
invariant-loop-entry l = l.lines.items ≡ flat_map (entry_line l.format) (take l.entry-index l.entries)
