use Rattle.std.proofs.Common.{◌↔◌, drop, map}
use Rattle.std.specs.List.{AllByRecursion}
use Rattle.ipld_tree.specs.Cid.{AreCidParts}
use Rattle.atproto_mst.specs.Nodes.{IsCidIfAny, row_told}
use Rattle.atproto_events.proofs.open.have_cids.Given as goal

abbrev pub invariant-loop-row : goal.invariant-loop-row
invariant-loop-row l = AllByRecursion (λ r. AreCidParts r.value × IsCidIfAny r.after) (map row_told l.rows)
    ↔ AllByRecursion (λ r. AreCidParts r.value × IsCidIfAny r.after) (map row_told (drop l.row-index l.rows))
