use Rattle.std.proofs.Common.{◌≡◌, take, flat_map}
use Rattle.program_parts.specs.Lines.{missing_line}
use Rattle.program_parts.proofs.line.missing_lines.Given as goal

abbrev pub invariant-loop-cid : goal.invariant-loop-cid
invariant-loop-cid l = l.lines.items ≡ flat_map missing_line (take l.cid-index l.missing)
