-- The message of a tree that has no spelling.
use Rattle.std.specs.Prelude.{◌≡◌, ◌⊎◌, ℕ, Bool, true, false, List, None, codes}
use Rattle.ipld_tree.specs.Tree.{Tree, null, boolean, integer, text, bytes, list, mapping, link, Items, no_items, item}
use Rattle.ipld_tree.specs.Spelled.{spelled}

-- an integer has a message of its own, a list that of an item without a spelling, and a map that of
-- a value without one; other trees have a spelling
abbrev mutual
  pub tree_message : Tree → List ℕ → Type 0
  tree_message (integer n) m = m ≡ codes "Integer must be within [-u64::MAX-1, u64::MAX] range"
  tree_message (list ts) m = items_message ts m
  tree_message (mapping es) m = m ≡ codes "Struct value cannot be serialized."
  tree_message null m = ⊥
  tree_message (boolean b) m = ⊥
  tree_message (text s) m = ⊥
  tree_message (bytes s) m = ⊥
  tree_message (link cid) m = ⊥

  pub items_message : Items → List ℕ → Type 0
  items_message no_items m = ⊥
  items_message (item t ts) m = ((spelled t ≡ None) × tree_message t m) ⊎ items_message ts m

-- whether a tree is an integer
abbrev pub is_integer : Tree → Bool
is_integer (integer n) = true
is_integer _ = false
