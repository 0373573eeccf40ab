use Rattle.std.proofs.Common.{◌≡◌, ◌+◌, ◌-◌, ◌*◌, ◌≤◌, List, [], ◌++◌, map, length, drop}
use Rattle.files_car.specs.Car.{Section}
use Rattle.atproto_mst.specs.Trees.{lower_run, entry_trees, subtree, subtree_nodes, nodes_between}
use Rattle.atproto_mst.specs.Nodes.{tree_of_row, row_told}
use Rattle.atproto_mst.specs.Placed.{all_told}
use Rattle.atproto_mst.specs.Sinks.{HandsOver}
use Rattle.atproto_mst.proofs.build.+build.Given as goal

abbrev pub decreases-name_subtree : goal.decreases-name_subtree
decreases-name_subtree g l = 3 * l.layer

abbrev pub decreases-name_rows : goal.decreases-name_rows
decreases-name_rows g l = 3 * l.layer + 1

abbrev pub decreases-name_node : goal.decreases-name_node
decreases-name_node g l = 3 * l.layer + 2

abbrev pub invariant-name_rows-loop-at : goal.invariant-name_rows-loop-at
invariant-name_rows-loop-at g l = record {
  bound : l.at ≤ length l.leaves;
  rows : map tree_of_row (map row_told l.rows.items) ++ entry_trees (subtree l.layer) l.layer l.previous (all_told (drop l.at l.leaves)) ≡ entry_trees (subtree l.layer) l.layer [] (all_told l.leaves);
  tops : lower_run l.layer (all_told (drop l.at l.leaves)) ≡ [];
  taken : (done : List Section) × (done ++ nodes_between (subtree_nodes l.layer) l.layer (all_told (drop l.at l.leaves)) ≡ nodes_between (subtree_nodes l.layer) l.layer (all_told l.leaves)) × HandsOver g.S.NodeSink.holds l.fn.sink done l.sink;
}

abbrev pub decreases-name_rows-loop-at : goal.decreases-name_rows-loop-at
decreases-name_rows-loop-at g l = length l.leaves - l.at
