use Rattle.std.proofs.Common.{map}
use Rattle.dagcbor_heads.proofs.Writing.{Written-but}
use Rattle.dagcbor_write.specs.Rows.{spelled_pairs, spelled_pair, ArePairs}
use Rattle.dagcbor_write.proofs.PlaceOrder.{left_at}
use Rattle.dagcbor_write.proofs.structs.write_places.Given as goal

abbrev pub invariant-loop-place : goal.invariant-loop-place
invariant-loop-place g l = let left = left_at (g.F.FieldRow.pairs l.fields) l.places in record {
  written : Written-but (spelled_pairs (left 0)) (map spelled_pair (left l.place-index))
      (g.W.Write.written l.fn.ser) (g.W.Write.written l.ser);
  well_formed : ArePairs (left l.place-index) → ArePairs (left 0);
}
