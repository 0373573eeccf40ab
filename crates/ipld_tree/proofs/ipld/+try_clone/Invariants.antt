use Rattle.std.proofs.Common.{◌≡◌, List, ◌++◌, take}
use Rattle.ipld_tree.specs.Ipld.{trees_of, pairs_of}
use Rattle.ipld_tree.proofs.Trees.{IpldEntry}
use Rattle.ipld_tree.proofs.ipld.+try_clone.Given as goal

abbrev pub invariant-clone_items-loop-item : goal.invariant-clone_items-loop-item
invariant-clone_items-loop-item l = trees_of l.copies.items ≡ trees_of (take l.item-index l.items)

abbrev pub invariant-clone_entries-loop-key : goal.invariant-clone_entries-loop-key
invariant-clone_entries-loop-key l = (done : List IpldEntry) × (l.initial.key-iterator ≡ done ++ l.key-iterator) × (pairs_of l.copies.entries ≡ pairs_of done)
