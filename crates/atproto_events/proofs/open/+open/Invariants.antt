use Rattle.std.proofs.Common.{◌≡◌, ◌+◌, ◌*◌, map, drop}
use Rattle.ipld_links.specs.Reaching.{stored_in}
use Rattle.atproto_mst.specs.Nodes.{row_told, node_told}
use Rattle.atproto_events.specs.Pieces.{pieces, OpensBelow}
use Rattle.atproto_events.specs.Opening.{StopsBelow, AreHeld}
use Rattle.atproto_events.proofs.Opening.{GoesOn, StopsOn}
use Rattle.atproto_events.proofs.open.+open.Given as goal

abbrev pub decreases-open_link : goal.decreases-open_link
decreases-open_link l = 2 * l.above

abbrev pub decreases-open_node : goal.decreases-open_node
decreases-open_node l = 2 * l.layer + 1

abbrev pub invariant-open_node-loop-row : goal.invariant-open_node-loop-row
invariant-open_node-loop-row l = record {
  same : l.row-items ≡ l.node.e.items;
  held : AreHeld l.lost (pieces l.found.items);
  stops : StopsOn (OpensBelow (stored_in l.blocks) l.layer) (StopsBelow (stored_in l.blocks) l.layer) l.layer (node_told l.node) (pieces l.fn.found.items) (pieces l.found.items) l.key.items
      (map row_told (drop l.row-index l.row-items));
  goes : GoesOn (OpensBelow (stored_in l.blocks) l.layer) l.layer l.node.l (map row_told l.node.e.items) (pieces l.fn.found.items) l.key.items (map row_told (drop l.row-index l.row-items)) (pieces l.found.items);
}
