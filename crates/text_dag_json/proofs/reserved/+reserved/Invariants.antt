use Rattle.std.proofs.Common.{◌≡◌, drop}
use Rattle.ipld_tree.specs.Tree.{items_of}
use Rattle.ipld_tree.specs.Ipld.{trees_of}
use Rattle.text_dag_json.specs.DagJson.{items_reserved}
use Rattle.text_dag_json.proofs.Reservations.{pairs_reserved}
use Rattle.text_dag_json.proofs.reserved.+reserved.Given as goal

abbrev pub invariant-items_reserved-loop-item : goal.invariant-items_reserved-loop-item
invariant-items_reserved-loop-item l = items_reserved (items_of (trees_of (drop l.item-index l.items))) ≡ items_reserved (items_of (trees_of l.items))

abbrev pub invariant-entries_reserved-loop-key : goal.invariant-entries_reserved-loop-key
invariant-entries_reserved-loop-key l = pairs_reserved l.key-iterator ≡ pairs_reserved l.initial.key-iterator
