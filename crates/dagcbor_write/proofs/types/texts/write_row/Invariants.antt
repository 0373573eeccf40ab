use Rattle.std.proofs.Common.{map}
use Rattle.dagcbor_heads.proofs.Writing.{Written-but}
use Rattle.ipld_tree.specs.Tree.{entries_tree}
use Rattle.ipld_tree.specs.Spelled.{spelled_tree}
use Rattle.dagcbor_write.specs.Rows.{spelled_pair, ArePairs}
use Rattle.dagcbor_write.specs.Texts.{text_pair, text_pairs}
use Rattle.dagcbor_write.proofs.PlaceOrder.{left_from}
use Rattle.dagcbor_write.proofs.types.texts.write_row.Given as goal

abbrev pub invariant-loop-entry : goal.invariant-loop-entry
invariant-loop-entry g l = let left = left_from (text_pair g.V.Serialize.tree) l.row in record {
  written : Written-but (spelled_tree (entries_tree (text_pairs g.V.Serialize.tree l.row))) (map spelled_pair (left l.entry-index)) (g.W.Write.written l.fn.ser) (g.W.Write.written l.ser);
  well_formed : ArePairs (left l.entry-index) → ArePairs (text_pairs g.V.Serialize.tree l.row);
}
