use Rattle.ipld_links.specs.Reaching.{stored_in}
use Rattle.atproto_mst.specs.Walks.{most_layers}
use Rattle.atproto_mst.proofs.Searching.{SearchedTo}
use Rattle.atproto_mst.proofs.find.find_record.Given as goal

abbrev pub invariant-loop-layer : goal.invariant-loop-layer
invariant-loop-layer l = SearchedTo most_layers (stored_in l.blocks) l.key l.root l._layer l.name
