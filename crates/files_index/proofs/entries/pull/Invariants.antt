use Rattle.std.proofs.Common.{length, ◌-◌, ◌≤◌}
use Rattle.files_index.proofs.Pulling.{PulledSome}
use Rattle.files_index.proofs.entries.pull.Given as goal

abbrev pub invariant-loop-filled : goal.invariant-loop-filled
invariant-loop-filled g l = (l.filled ≤ length l.room) × PulledSome (g.R.Read.remaining l.initial.input) l.filled l.room (g.R.Read.remaining l.input)

abbrev pub decreases-loop-filled : goal.decreases-loop-filled
decreases-loop-filled g l = length l.room - l.filled
