use Rattle.std.proofs.Common.{◌≡◌, take, map, Some, []}
use Rattle.dagcbor_heads.specs.Written.{WroteAll}
use Rattle.ipld_tree.specs.Spelled.{spelled_tree}
use Rattle.dagcbor_write.specs.Each.{AreTrees}
use Rattle.dagcbor_write.proofs.Waiting.{Holds}
use Rattle.dagcbor_bench.proofs.bag.BagSerialize.serialize.Given as goal

abbrev pub invariant-loop-item : goal.invariant-loop-item
invariant-loop-item g l = record {
  same_reference : l.list.ser.ghost_name ≡ l.initial.list.ser.ghost_name;
  holds : Holds l.list.items (map spelled_tree (map g.T.Serialize.tree (take l.item-index l.item-items)));
  nothing : WroteAll (Some []) (g.W.Write.written l.fn.ser) (g.W.Write.written l.list.ser.now);
  well_formed : AreTrees (map g.T.Serialize.tree (take l.item-index l.item-items));
}
