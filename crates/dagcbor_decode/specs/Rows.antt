-- The links of items in a row.
use Rattle.std.specs.Prelude.{◌≡◌, ◌==◌, ◌||◌, ◌++◌, ℕ, Bool, List}
use Rattle.std.specs.List.{AllByRecursion, flat_map}
use Rattle.ipld_tree.specs.Tree.{Tree, IsTree, links_of}
use Rattle.ipld_tree.specs.Spelling.{IsSpellable, IsSpelling, spelling}
use Rattle.dagcbor_decode.specs.Decode.{got, decode_first}

-- whether a head of this major type is that of a string
abbrev pub is_string : ℕ → Bool
is_string major = (major == 2) || (major == 3)

-- the bytes are the spellings of items in a row, and these are the items' links, in binary form and
-- in order
pub record HoldsLinks (b : List ℕ) (links : List (List ℕ)) : Type 0 where
  pub trees : List Tree
  pub whole : AllByRecursion (λ t. IsTree t × IsSpellable t) trees
  pub is : b ≡ flat_map spelling trees
  pub are : links ≡ flat_map links_of trees

-- the bytes begin with an item that is decoded, and `item` is the bytes of that item
pub record IsFirstItem (b item : List ℕ) : Type 0 where
  pub tree : Tree
  pub rest : List ℕ
  pub decoded : decode_first b ≡ got tree rest
  pub spelled : IsSpelling item tree
  pub is : b ≡ item ++ rest
