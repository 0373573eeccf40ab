use Rattle.std.proofs.Common.{◌+◌, ◌-◌, ◌*◌, option_map}
use Rattle.std.specs.Cow.{cow_str_bytes}
use Rattle.dagcbor_heads.specs.Inputs.{input_reading}
use Rattle.dagcbor_heads.specs.Looking.{LooksAtSome}
use Rattle.ipld_tree.specs.Tree.{ordered_entries}
use Rattle.ipld_tree.specs.Ipld.{trees_of, pairs_of}
use Rattle.dagcbor_items.proofs.Lists.{ReadSome}
use Rattle.dagcbor_items.proofs.Maps.{ReadEntries}
use Rattle.dagcbor_items.proofs.any.+any.Given as goal

abbrev pub decreases-read_into : goal.decreases-read_into
decreases-read_into g l = 5 * (input_reading g.R.Read.reading l.input.now).steps

abbrev pub decreases-read_item : goal.decreases-read_item
decreases-read_item g l = 5 * (input_reading g.R.Read.reading l.input.now).steps + 4

abbrev pub decreases-put_of_major : goal.decreases-put_of_major
decreases-put_of_major g l = 5 * (input_reading g.R.Read.reading l.input.now).steps + 3

abbrev pub decreases-read_list : goal.decreases-read_list
decreases-read_list g l = 5 * (input_reading g.R.Read.reading l.input.now).steps + 2

abbrev pub decreases-read_items : goal.decreases-read_items
decreases-read_items g l = 5 * (input_reading g.R.Read.reading l.input.now).steps + 1

abbrev pub invariant-read_items-loop-index : goal.invariant-read_items-loop-index
invariant-read_items-loop-index g l = record {
  read : ReadSome l.count (l.count - l._index) (input_reading g.R.Read.reading l.fn.input) (trees_of l.items.items) (input_reading g.R.Read.reading l.input);
  looked : LooksAtSome 3 (input_reading g.R.Read.reading l.fn.input) (input_reading g.R.Read.reading l.input);
}

abbrev pub decreases-read_map : goal.decreases-read_map
decreases-read_map g l = 5 * (input_reading g.R.Read.reading l.input.now).steps + 2

abbrev pub decreases-read_entries : goal.decreases-read_entries
decreases-read_entries g l = 5 * (input_reading g.R.Read.reading l.input.now).steps + 1

abbrev pub invariant-read_entries-loop-index : goal.invariant-read_entries-loop-index
invariant-read_entries-loop-index g l = record {
  read : ReadEntries l.count (l.count - l._index) (input_reading g.R.Read.reading l.fn.input) (ordered_entries (pairs_of l.entries.entries)) (option_map cow_str_bytes l.previous) (input_reading g.R.Read.reading l.input);
  looked : LooksAtSome 3 (input_reading g.R.Read.reading l.fn.input) (input_reading g.R.Read.reading l.input);
}
