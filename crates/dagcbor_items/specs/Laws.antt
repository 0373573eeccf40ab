-- The functions of `Decode.antt` and `Leaves.antt` read the trees that are in bytes.
use Rattle.std.specs.Prelude.{◌≡◌, ℕ, ◌≤◌, List, Option, Some, codes}
use Rattle.ipld_tree.specs.Tree.{Tree, link, any_need}
use Rattle.ipld_tree.specs.Spelling.{IsFront}
use Rattle.dagcbor_decode.specs.Decode.{Decoded, got, item_of}
use Rattle.dagcbor_items.specs.Shapes.{natural_below, within, view_unsigned, view_signed, view_text, view_char, view_bytes, view_null, view_bool}
use Rattle.dagcbor_items.specs.Leaves.{number_at, big_number_at, text_at, char_at, string_at, byte_at, bool_at, link_at}

-- from bytes that begin with a tree, the function reads what the tree shows, and leaves the rest
abbrev pub Reads : {V : Type 0} → (List ℕ → Decoded V) → (Tree → Option V) → Type 0
Reads {V} read view = (b : List ℕ) (t : Tree) (rest : List ℕ) (v : V) → IsFront b t rest → view t ≡ Some v
    → read b ≡ got v rest

pub record ReadsAreDecoded : Type 0 where
  pub item : (steps : ℕ) (b : List ℕ) (t : Tree) (rest : List ℕ) → IsFront b t rest → any_need t ≤ steps
      → item_of steps b ≡ got t rest
  pub natural : (name : List ℕ) (bound : ℕ) → Reads (number_at name (natural_below bound)) (view_unsigned bound)
  pub number : (name : List ℕ) (bound : ℕ) → Reads (number_at name (within bound)) (view_signed bound)
  pub big_natural : (name : List ℕ) (bound : ℕ) → Reads (big_number_at name (natural_below bound)) (view_unsigned bound)
  pub big_number : (name : List ℕ) (bound : ℕ) → Reads (big_number_at name (within bound)) (view_signed bound)
  pub text : (name : List ℕ) → Reads (text_at name) view_text
  pub char : Reads char_at view_char
  pub bytes : (name : List ℕ) → Reads (string_at name 2) view_bytes
  pub null : Reads (byte_at (codes "unit") (codes "unit") 0xf6) view_null
  pub bool : Reads bool_at view_bool
  pub cid : (b cid rest : List ℕ) → IsFront b (link cid) rest → link_at b ≡ got (link cid) rest
