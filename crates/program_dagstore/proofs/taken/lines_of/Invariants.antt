use Rattle.std.proofs.Common.{◌≡◌, take, flat_map}
use Rattle.program_dagstore.specs.Changes.{line_after}
use Rattle.program_dagstore.proofs.taken.lines_of.Given as goal

abbrev pub invariant-loop-name : goal.invariant-loop-name
invariant-loop-name l = l.lines.items ≡ flat_map (line_after l.words) (take l.name-index l.names)
