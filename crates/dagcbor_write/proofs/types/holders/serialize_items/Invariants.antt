use Rattle.std.proofs.Common.{◌≡◌, ◌+◌, length, drop, take, map}
use Rattle.dagcbor_heads.proofs.Writing.{Written-but}
use Rattle.ipld_tree.specs.Tree.{list_tree}
use Rattle.ipld_tree.specs.Spelled.{spelled_tree}
use Rattle.dagcbor_write.specs.Each.{AreTrees}
use Rattle.dagcbor_write.proofs.types.holders.serialize_items.Given as goal

abbrev pub invariant-loop-item : goal.invariant-loop-item
invariant-loop-item g l = record {
  same_reference : l.list.ser.ghost_name ≡ l.initial.list.ser.ghost_name;
  left : l.list.left + l.item-index ≡ length l.items;
  written : Written-but (spelled_tree (list_tree (map g.T.Serialize.tree l.items))) (map spelled_tree (map g.T.Serialize.tree (drop l.item-index l.items))) (g.W.Write.written l.fn.ser) (g.W.Write.written l.list.ser.now);
  well_formed : AreTrees (map g.T.Serialize.tree (take l.item-index l.items));
}
