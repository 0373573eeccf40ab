use Rattle.std.proofs.Common.{ℕ, ◌+◌, ◌<◌, slice_index_or, map}
use Rattle.types_serde.specs.Holds.{StandsBefore}
use Rattle.dagcbor_write.specs.Maps.{Texts}
use Rattle.dagcbor_write.specs.Spans.{entry_at}
use Rattle.types_serde.proofs.entries.are_in_order.Given as goal

abbrev pub invariant-loop-i : goal.invariant-loop-i
invariant-loop-i l = (k : ℕ) (d : Texts) → k + 1 < l.i → StandsBefore (slice_index_or (map (entry_at l.bytes) l.spans) k d).0 (slice_index_or (map (entry_at l.bytes) l.spans) (k + 1) d).0
