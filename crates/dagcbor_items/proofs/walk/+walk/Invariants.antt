use Rattle.std.proofs.Common.{◌+◌, ◌-◌, ◌*◌, List, option_map}
use Rattle.dagcbor_heads.specs.Looking.{LooksAtSome}
use Rattle.ipld_tree.specs.Tree.{Tree, Entries, items_of, items_links, entries_links}
use Rattle.dagcbor_items.specs.Walks.{Finds}
use Rattle.dagcbor_items.proofs.Lists.{ReadSome}
use Rattle.dagcbor_items.proofs.Maps.{ReadEntries}
use Rattle.dagcbor_items.proofs.walk.+walk.Given as goal

abbrev pub decreases-walk_by_bytes : goal.decreases-walk_by_bytes
decreases-walk_by_bytes g l = 6 * (g.I.Read.reading l.input.now).steps

abbrev pub decreases-walk_any : goal.decreases-walk_any
decreases-walk_any g l = 6 * (g.I.Read.reading l.input.now).steps + 1

abbrev pub decreases-walk_item : goal.decreases-walk_item
decreases-walk_item g l = 6 * (g.I.Read.reading l.input.now).steps + 5

abbrev pub decreases-walk_of_major : goal.decreases-walk_of_major
decreases-walk_of_major g l = 6 * (g.I.Read.reading l.input.now).steps + 4

abbrev pub decreases-walk_list : goal.decreases-walk_list
decreases-walk_list g l = 6 * (g.I.Read.reading l.input.now).steps + 3

abbrev pub decreases-walk_items : goal.decreases-walk_items
decreases-walk_items g l = 6 * (g.I.Read.reading l.input.now).steps + 2

abbrev pub invariant-walk_items-loop-index : goal.invariant-walk_items-loop-index
invariant-walk_items-loop-index g l = record {
  read : (ts : List Tree) × ReadSome l.count (l.count - l._index) (g.I.Read.reading l.fn.input) ts (g.I.Read.reading l.input) × Finds g.S.LinkSink.sink.holds l.fn.links (items_links (items_of ts)) l.links;
  looked : LooksAtSome 3 (g.I.Read.reading l.fn.input) (g.I.Read.reading l.input);
}

abbrev pub decreases-walk_map : goal.decreases-walk_map
decreases-walk_map g l = 6 * (g.I.Read.reading l.input.now).steps + 3

abbrev pub decreases-walk_entries : goal.decreases-walk_entries
decreases-walk_entries g l = 6 * (g.I.Read.reading l.input.now).steps + 2

abbrev pub invariant-walk_entries-loop-index : goal.invariant-walk_entries-loop-index
invariant-walk_entries-loop-index g l = record {
  read : (es : Entries) × ReadEntries l.count (l.count - l._index) (g.I.Read.reading l.fn.input) es (option_map g.I.PayloadReader.key_bytes l.previous) (g.I.Read.reading l.input) × Finds g.S.LinkSink.sink.holds l.fn.links (entries_links es) l.links;
  looked : LooksAtSome 3 (g.I.Read.reading l.fn.input) (g.I.Read.reading l.input);
}
