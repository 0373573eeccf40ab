use Rattle.ipld_links.specs.Reaching.{stored_in}
use Rattle.atproto_mst.specs.Walks.{most_layers}
use Rattle.atproto_mst.proofs.Searching.{SearchedTo}
use Rattle.atproto_mst.proofs.Ways.{WentTo}
use Rattle.atproto_mst.proofs.way.record_way.Given as goal

abbrev pub invariant-loop-layer : goal.invariant-loop-layer
invariant-loop-layer l = SearchedTo most_layers (stored_in l.blocks) l.key l.root l._layer l.name
    × WentTo most_layers (stored_in l.blocks) l.key l.root l._layer l.name l.names.items
