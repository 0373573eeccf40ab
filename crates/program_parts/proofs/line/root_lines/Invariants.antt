use Rattle.std.proofs.Common.{◌≡◌, take, flat_map}
use Rattle.dagcbor_items.specs.Walks.{forms}
use Rattle.program_parts.specs.Lines.{root_line}
use Rattle.program_parts.proofs.line.root_lines.Given as goal

abbrev pub invariant-loop-cid : goal.invariant-loop-cid
invariant-loop-cid l = l.lines.items ≡ flat_map root_line (forms (take l.cid-index l.roots))
