use Rattle.std.proofs.Common.{◌≡◌, ℕ, ◌+◌, ◌<◌, List, slice_index_or}
use Rattle.dagcbor_write.proofs.collect.keyed.Keyed.keys_differ.Given as goal

abbrev pub invariant-loop-i : goal.invariant-loop-i
invariant-loop-i g l = (k : ℕ) (d : List ℕ × g.row.V.Denot) → k + 1 < l.i → (slice_index_or l.self k d).0 ≡ (slice_index_or l.self (k + 1) d).0 → ⊥
