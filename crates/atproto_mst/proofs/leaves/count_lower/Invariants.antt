use Rattle.std.proofs.Common.{◌≡◌, ◌+◌, drop, length}
use Rattle.atproto_mst.specs.Trees.{lower_run}
use Rattle.atproto_mst.specs.Placed.{all_told}
use Rattle.atproto_mst.proofs.leaves.count_lower.Given as goal

abbrev pub invariant-loop-leaf : goal.invariant-loop-leaf
invariant-loop-leaf l = record {
  count : l.count ≡ l.leaf-index;
  rest : length (lower_run l.layer (all_told l.leaves)) ≡ l.leaf-index + length (lower_run l.layer (all_told (drop l.leaf-index l.leaves)));
}
