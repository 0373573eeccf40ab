use Rattle.std.proofs.Common.{◌≡◌, take, flat_map}
use Rattle.program_inspect.specs.Facts.{row_line}
use Rattle.program_inspect.proofs.plain.row_lines.Given as goal

abbrev pub invariant-loop-row : goal.invariant-loop-row
invariant-loop-row l = l.lines.items ≡ flat_map (row_line l.kind) (take l.row-index l.rows)
