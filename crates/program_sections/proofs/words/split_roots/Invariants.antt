use Rattle.std.proofs.Common.{map, string_bytes, length}
use Rattle.program_sections.proofs.Wording.{Split}
use Rattle.program_sections.proofs.words.split_roots.Given as goal

abbrev pub invariant-loop-root : goal.invariant-loop-root
invariant-loop-root l = Split (map string_bytes l.fn.args) (map string_bytes l.rest) l.roots.items

abbrev pub decreases-loop-root : goal.decreases-loop-root
decreases-loop-root l = length l.rest
