use Rattle.std.proofs.Common.{◌+◌, ◌*◌, ◌≤◌, length, drop, map}
use Rattle.ipld_links.specs.Reaching.{stored_in}
use Rattle.atproto_mst.specs.Nodes.{row_told}
use Rattle.atproto_mst.specs.Walks.{WalksTree}
use Rattle.atproto_mst.specs.Stops.{StopsWalk}
use Rattle.atproto_mst.specs.InLayers.{IsRightBelow}
use Rattle.atproto_mst.specs.Gathering.{key_after}
use Rattle.atproto_mst.proofs.Gathering.{GoesOn, SettledBy}
use Rattle.atproto_mst.proofs.read.+gather.Given as goal

abbrev pub decreases-gather : goal.decreases-gather
decreases-gather l = 4 * l.layers

abbrev pub decreases-gather_below : goal.decreases-gather_below
decreases-gather_below l = 4 * l.layers + 1

abbrev pub decreases-gather_rows : goal.decreases-gather_rows
decreases-gather_rows l = 4 * l.layers + 2

abbrev pub decreases-gather_node : goal.decreases-gather_node
decreases-gather_node l = 4 * l.layers + 3

abbrev pub invariant-gather_rows-loop-row : goal.invariant-gather_rows-loop-row
invariant-gather_rows-loop-row l = (l.previous ≤ length l.found.items)
    × GoesOn (WalksTree l.layers (stored_in l.blocks)) (StopsWalk l.layers (stored_in l.blocks)) l.fn.found (map row_told l.rows)
    l.found (key_after l.previous l.found.items) (map row_told (drop l.row-index l.rows))
    × SettledBy (IsRightBelow (stored_in l.blocks) l.layer) l.layer (map row_told l.rows) l.fits (key_after l.previous l.found.items) (map row_told (drop l.row-index l.rows))
