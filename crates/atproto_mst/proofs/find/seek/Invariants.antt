use Rattle.std.proofs.Common.{◌≡◌, map, drop}
use Rattle.atproto_mst.specs.Nodes.{row_told, node_told}
use Rattle.atproto_mst.specs.Finding.{seek, seek_in}
use Rattle.atproto_mst.proofs.find.seek.Given as goal

abbrev pub invariant-loop-row : goal.invariant-loop-row
invariant-loop-row l = seek_in l.key (node_told l.node) ≡ seek l.key l.next.items l.before (map row_told (drop l.row-index l.row-items))
