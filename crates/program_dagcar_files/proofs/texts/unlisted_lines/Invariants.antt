use Rattle.std.proofs.Common.{◌≡◌, take, flat_map}
use Rattle.program_dagcar_files.specs.Indexes.{unlisted_line}
use Rattle.program_dagcar_files.proofs.texts.unlisted_lines.Given as goal

abbrev pub invariant-loop-section : goal.invariant-loop-section
invariant-loop-section l = l.lines.items ≡ flat_map unlisted_line (take l.section-index l.sections)
