use Rattle.std.proofs.Common.{◌≡◌, map, take}
use Rattle.files_index.specs.Judging.{listed_as}
use Rattle.files_index.proofs.judging.right_entries.Given as goal

abbrev pub invariant-loop-section : goal.invariant-loop-section
invariant-loop-section l = l.entries.items ≡ map (listed_as l.format) (take l.section-index l.sections)
