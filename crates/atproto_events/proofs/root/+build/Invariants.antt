use Rattle.std.proofs.Common.{◌≡◌, ◌+◌, ◌*◌, List, [], ◌++◌, length}
use Rattle.atproto_events.specs.Pieces.{PieceParts, pieces, lower_pieces}
use Rattle.atproto_events.proofs.Building.{RowsGoOn}
use Rattle.atproto_events.proofs.root.+build.Given as goal

abbrev pub decreases-subtree_of : goal.decreases-subtree_of
decreases-subtree_of l = 3 * l.layer

abbrev pub decreases-rows_of : goal.decreases-rows_of
decreases-rows_of l = 3 * l.layer + 1

abbrev pub decreases-node_of : goal.decreases-node_of
decreases-node_of l = 3 * l.layer + 2

abbrev pub invariant-rows_of-loop-top : goal.invariant-rows_of-loop-top
invariant-rows_of-loop-top l = record {
  tops : lower_pieces l.layer (pieces l.rest) ≡ [];
  passed : (done : List PieceParts) × (pieces l.all ≡ done ++ pieces l.rest);
  rows : RowsGoOn l.layer (pieces l.all) l.previous (pieces l.rest) l.rows.items;
}

abbrev pub decreases-rows_of-loop-top : goal.decreases-rows_of-loop-top
decreases-rows_of-loop-top l = length l.rest
