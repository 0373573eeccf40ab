use Rattle.std.proofs.Common.{List}
use Rattle.dagcbor_write.specs.Trees.{Pair}
use Rattle.dagcbor_write.specs.Maps.{ShowsPairs}
use Rattle.dagcbor_write.proofs.Fields.{Given-but}
use Rattle.dagcbor_write.proofs.KeyOrder.{IsKeyedBy}
use Rattle.dagcbor_write.proofs.types.maps.write_entries.Given as goal

abbrev pub invariant-loop-key : goal.invariant-loop-key
invariant-loop-key g l = record {
  can_next : (goal.iterator-loop-key g).can_next l.key-iterator;
  is_finite : (goal.iterator-loop-key g).is_finite l.key-iterator;
  given : (rest : g.row.I.Denot → List Pair) → ShowsPairs g.I.Iterator.next_gives (λ e. (g.K.Serialize.tree e.0.now, g.V.Serialize.tree e.1.now)) rest → Given-but (IsKeyedBy g.V.Serialize.tree) (rest l.fn.entries) (rest l.key-iterator) l.keyed;
}
