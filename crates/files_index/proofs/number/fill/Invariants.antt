use Rattle.std.proofs.Common.{◌≡◌, ◌-◌, ◌≤◌, take, drop, length, IfSome}
use Rattle.files_index.proofs.number.fill.Given as goal

abbrev pub invariant-loop-filled : goal.invariant-loop-filled
invariant-loop-filled g l = (l.filled ≤ length l.room) × IfSome (g.S.ReadAt.bytes l.source) (λ b. take l.filled l.room ≡ take l.filled (drop l.place b))

abbrev pub decreases-loop-filled : goal.decreases-loop-filled
decreases-loop-filled g l = length l.room - l.filled
