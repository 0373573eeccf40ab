use Rattle.std.proofs.Common.{rules}
use Rattle.ipld_tree.specs.declared.ipld.Ipld.{the_lemmas}
use Rattle.ipld_tree.proofs.Same.{lists_same, maps_same}
use Rattle.ipld_tree.proofs.ipld.+equal.Goals as goal

pub equal-returns-in-Bytes-Bytes : goal.equal-returns-in-Bytes-Bytes
equal-returns-in-Bytes-Bytes t c = search (rules, the_lemmas)

pub equal-returns-in-List-List : goal.equal-returns-in-List-List
equal-returns-in-List-List t c = lists_same c.args.left.now c.args.right.now c.in-List-List.a c.in-List-List.b _ _ c.equal_items.result c.in-List-List.is-0 c.in-List-List.is-1 c.deref.ensures.value c.deref-in-List-List.ensures.value c.equal_items.ensures

pub equal-returns-in-Map-Map : goal.equal-returns-in-Map-Map
equal-returns-in-Map-Map t c = maps_same c.args.left.now c.args.right.now c.in-Map-Map.a c.in-Map-Map.b c.equal_entries.result c.in-Map-Map.is-0 c.in-Map-Map.is-1 c.equal_entries.ensures.left_sorted c.equal_entries.ensures.right_sorted c.equal_entries.ensures.same
