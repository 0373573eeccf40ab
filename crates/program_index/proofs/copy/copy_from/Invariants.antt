use Rattle.std.proofs.Common.{◌-◌, ◌≤◌}
use Rattle.program_index.proofs.Copying.{Copied}
use Rattle.program_index.proofs.copy.copy_from.Given as goal

abbrev pub invariant-loop-done : goal.invariant-loop-done
invariant-loop-done g l = (l.done ≤ l.count) × Copied (g.S.ReadAt.bytes l.source) l.begin l.done (g.W.Write.contents l.initial.output) (g.W.Write.contents l.output)

abbrev pub decreases-loop-done : goal.decreases-loop-done
decreases-loop-done g l = l.count - l.done
