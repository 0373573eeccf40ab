use Rattle.std.proofs.Common.{◌≡◌, ◌↔◌, drop}
use Rattle.ipld_tree.specs.Ipld.{trees_of, pairs_of}
use Rattle.ipld_tree.proofs.ipld.+equal.Given as goal

-- all are equal if those that are left are

abbrev pub invariant-equal_items-loop-i : goal.invariant-equal_items-loop-i
invariant-equal_items-loop-i l = (trees_of l.left ≡ trees_of l.right) ↔ (trees_of (drop l.i l.left) ≡ trees_of (drop l.i l.right))

abbrev pub invariant-equal_entries-loop-key : goal.invariant-equal_entries-loop-key
invariant-equal_entries-loop-key l = (pairs_of l.left.entries ≡ pairs_of l.right.entries) ↔ (pairs_of l.key-iterator ≡ pairs_of l.others)
