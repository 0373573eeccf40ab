use Rattle.std.proofs.Common.{◌≡◌, ◌++◌, drop, flat_map}
use Rattle.types_serde.proofs.entries.push_entries.Given as goal
use Rattle.dagcbor_write.specs.Spans.{whole_at}

abbrev pub invariant-loop-i : goal.invariant-loop-i
invariant-loop-i l = l.out.items ++ flat_map (whole_at l.bytes) (drop l.i l.spans) ≡ l.fn.out.items ++ flat_map (whole_at l.bytes) l.spans
