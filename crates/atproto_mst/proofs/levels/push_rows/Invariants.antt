use Rattle.std.proofs.Common.{◌≡◌, ◌++◌, [], drop, map}
use Rattle.atproto_mst.specs.Nodes.{row_told, node_told}
use Rattle.atproto_mst.specs.Levels.{row_items, held_items}
use Rattle.atproto_mst.proofs.levels.push_rows.Given as goal

abbrev pub invariant-loop-row : goal.invariant-loop-row
invariant-loop-row l = held_items l.opened.items ++ row_items l.key.items (map row_told (drop l.row-index l.row-items))
    ≡ held_items l.fn.opened.items ++ row_items [] (node_told l.node).rows
