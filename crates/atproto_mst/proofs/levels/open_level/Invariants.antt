use Rattle.std.proofs.Common.{◌≡◌, ◌++◌, [], List}
use Rattle.ipld_links.specs.Reaching.{stored_in}
use Rattle.ipld_links.specs.Sets.{members}
use Rattle.atproto_mst.specs.Nodes.{node_told}
use Rattle.atproto_mst.specs.Levels.{LevelItem, row_items, held_items, OpensItems}
use Rattle.atproto_mst.proofs.levels.open_level.Given as goal

abbrev pub invariant-loop-held : goal.invariant-loop-held
invariant-loop-held l = record {
  opened : (more : List LevelItem) × OpensItems (stored_in l.blocks) (members l.dropped) (held_items l.yielded) more
      × (held_items l.below.items ≡ row_items [] (node_told l.node).rows ++ more);
  all : l.fn.level.entries.items ≡ l.yielded ++ l.held-iterator.rest.items;
}
