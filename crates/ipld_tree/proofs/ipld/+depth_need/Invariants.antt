use Rattle.std.proofs.Common.{◌≡◌, ◌-◌, ◌^◌, min, max, take}
use Rattle.ipld_tree.specs.Tree.{items_need}
use Rattle.ipld_tree.proofs.Trees.{items_tree}
use Rattle.ipld_tree.proofs.ipld.+depth_need.Given as goal

abbrev pub invariant-need_of_items-loop-item : goal.invariant-need_of_items-loop-item
invariant-need_of_items-loop-item l = l.greatest ≡ min (items_need (items_tree (take l.item-index l.items))) (2 ^ 64 - 1)

-- with what the values left need it is what all need
abbrev pub invariant-need_of_values-loop-value : goal.invariant-need_of_values-loop-value
invariant-need_of_values-loop-value l = max l.greatest (min (items_need (items_tree l.value-iterator)) (2 ^ 64 - 1)) ≡ min (items_need (items_tree l.initial.value-iterator)) (2 ^ 64 - 1)
