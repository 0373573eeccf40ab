-- The law of the order of a map's entries.
use Rattle.std.specs.Prelude.{◌≡◌, List, IsPermutation}
use Rattle.ipld_tree.specs.Tree.{entries_tree}
use Rattle.dagcbor_write.specs.Trees.{Pair}

-- Entries in another order have the same tree.
abbrev pub OrderUnseen : Type 0
OrderUnseen = (ps qs : List Pair) → IsPermutation ps qs → entries_tree ps ≡ entries_tree qs
