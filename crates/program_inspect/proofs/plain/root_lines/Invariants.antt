use Rattle.std.proofs.Common.{◌≡◌, take, flat_map}
use Rattle.program_inspect.specs.Facts.{root_told}
use Rattle.program_inspect.proofs.plain.root_lines.Given as goal

abbrev pub invariant-loop-root : goal.invariant-loop-root
invariant-loop-root l = l.lines.items ≡ flat_map root_told (take l.root-index l.roots)
