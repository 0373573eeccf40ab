use Rattle.std.proofs.Common.{◌-◌, ◌≤◌, ◌<◌, ◌^◌, IfSome, length}
use Rattle.files_index.proofs.Lookups.{Narrows}
use Rattle.files_index.proofs.find.Bucket.first_of.Given as goal

abbrev pub invariant-loop-low : goal.invariant-loop-low
invariant-loop-low g l = (l.low ≤ l.high) × (l.high ≤ l.self.count)
    × IfSome (g.S.ReadAt.bytes l.source) (λ b. length b < 2 ^ 64 → Narrows b l.self l.digest l.low l.high)

abbrev pub decreases-loop-low : goal.decreases-loop-low
decreases-loop-low g l = l.high - l.low
