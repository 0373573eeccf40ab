use Rattle.std.proofs.Common.{Some, [], ◌∷◌, drop, length, is_some}
use Rattle.std.specs.Fmt.{◌++?◌}
use Rattle.dagcbor_heads.proofs.Writing.{Written-but}
use Rattle.dagcbor_write.specs.Order.{head_rest, entries_bytes}
use Rattle.dagcbor_write.proofs.serializer.Serializer.push_entries.Given as goal

abbrev pub invariant-loop-i : goal.invariant-loop-i
invariant-loop-i g l = Written-but (head_rest (is_some l.state.announced) (length l.state.entries) ++? Some (entries_bytes l.state.entries)) (Some (entries_bytes (drop l.i l.state.entries)) ∷ []) (g.W.Write.written l.fn.self) (g.W.Write.written l.self)
