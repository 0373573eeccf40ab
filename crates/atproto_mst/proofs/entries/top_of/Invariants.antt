use Rattle.std.proofs.Common.{◌≡◌, drop}
use Rattle.std.specs.Prelude.{max}
use Rattle.atproto_mst.specs.Trees.{top_layer}
use Rattle.atproto_mst.specs.Placed.{all_told}
use Rattle.atproto_mst.proofs.entries.top_of.Given as goal

abbrev pub invariant-loop-leaf : goal.invariant-loop-leaf
invariant-loop-leaf l = top_layer (all_told l.leaves) ≡ max l.top (top_layer (all_told (drop l.leaf-index l.leaves)))
