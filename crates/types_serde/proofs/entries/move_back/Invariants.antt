use Rattle.std.proofs.Common.{IsPermutation}
use Rattle.types_serde.proofs.entries.move_back.Given as goal

abbrev pub invariant-loop-step : goal.invariant-loop-step
invariant-loop-step l = IsPermutation l.fn.spans l.spans
