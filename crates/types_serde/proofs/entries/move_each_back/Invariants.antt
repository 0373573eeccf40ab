use Rattle.std.proofs.Common.{IsPermutation}
use Rattle.types_serde.proofs.entries.move_each_back.Given as goal

abbrev pub invariant-loop-i : goal.invariant-loop-i
invariant-loop-i l = IsPermutation l.fn.spans l.spans
