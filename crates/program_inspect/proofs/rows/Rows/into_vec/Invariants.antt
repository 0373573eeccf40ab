use Rattle.std.proofs.Common.{◌≡◌}
use Rattle.program_inspect.proofs.rows.Rows.into_vec.Given as goal

abbrev pub invariant-loop-entry : goal.invariant-loop-entry
invariant-loop-entry l = l.list.items ≡ l.yielded
