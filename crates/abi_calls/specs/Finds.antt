-- What callers in other languages get for a path.
use Rattle.std.specs.Prelude.{◌≡◌, ◌⊎◌, ℕ, ◌+◌, ℤ, negsuc, List, [], ◌∷◌, ◌++◌, length, IsUtf8, Option, None, Some, Result, Ok, Err}
use Rattle.std.specs.declared.convert.Infallible.{Infallible}
use Rattle.dagcbor_core.specs.declared.error.DecodeError.{DecodeError}
use Rattle.ipld_tree.specs.Tree.{Tree}
use Rattle.dagcbor_decode.specs.Decode.{Why, refused, decode}
use Rattle.dagcbor_decode.specs.Blocks.{IsBlock}
use Rattle.dagcbor_decode.specs.TreeKinds.{kind_of}
use Rattle.ipld_paths.specs.Paths.{segments, At}
use Rattle.ipld_paths.specs.Finding.{StandAt, LeadsInto, EndsWay}
use Rattle.ipld_paths.specs.declared.find.Item.{Item}
use Rattle.abi_calls.specs.Codes.{kind_code, why_code, refusal_code}

-- where an item begins in a block, and where it ends
abbrev pub Places : Type 0
Places = ℕ × ℕ

-- the path leads from the block's tree to a tree, whose spelling is at the places; the number is
-- that of its kind
pub record IsFoundAt (b : List ℕ) (path : List (List ℕ)) (places : Places) (code : ℤ) : Type 0 where
  pub tree : Tree
  pub found : Tree
  pub block : IsBlock b tree
  pub at : At path tree found
  pub part : List ℕ
  pub is_block : IsBlock part found
  pub stands : StandAt b places.0 part
  pub ends : places.1 ≡ places.0 + length part
  pub told : code ≡ kind_code (kind_of found)

-- the path leads nowhere in the block: -36
abbrev pub IsNotFound : List ℕ → List (List ℕ) → ℤ → Type 0
IsNotFound b path code = ((t : Tree) × IsBlock b t × ((u : Tree) → ¬ At path t u)) × (code ≡ negsuc 35)

-- the bytes are not a block: the number of why
abbrev pub IsRefusedAs : List ℕ → ℤ → Type 0
IsRefusedAs b code = (why : Why) × (left : ℕ) × (decode b ≡ refused why left)
    × (code ≡ why_code why)

-- the bytes are not UTF-8 text: -37
abbrev pub IsNoText : List ℕ → ℤ → Type 0
IsNoText text code = (¬ IsUtf8 text) × (code ≡ negsuc 36)

-- The text names these segments, and the answer is the item to which they lead in the block; or the
-- places stay, because they lead nowhere, the bytes are not a block, or the text is not UTF-8.
abbrev pub IsFoundAnswer : List ℕ → List ℕ → List (List ℕ) → Places → Places → ℤ → Type 0
IsFoundAnswer b text path old new code = (IsUtf8 text × IsFoundAt b path new code)
    ⊎ ((new ≡ old) × ((IsUtf8 text × (IsNotFound b path code ⊎ IsRefusedAs b code)) ⊎ IsNoText text code))

-- the answer for a path
abbrev pub IsFindAnswer : List ℕ → List ℕ → Places → Places → ℤ → Type 0
IsFindAnswer b path = IsFoundAnswer b path (segments path)

-- the answer for one segment, taken whole
abbrev pub IsPartAnswer : List ℕ → List ℕ → Places → Places → ℤ → Type 0
IsPartAnswer b segment = IsFoundAnswer b segment (segment ∷ [])

-- what is returned for the item that was found, if one was
abbrev pub TellsFound : Result (Option Item) (DecodeError Infallible) → Places → Places → ℤ → Type 0
TellsFound (Ok (Some item)) old new code = (new ≡ (item.place, item.place + length item.bytes.now))
    × (code ≡ kind_code item.kind)
TellsFound (Ok None) old new code = (new ≡ old) × (code ≡ negsuc 35)
TellsFound (Err e) old new code = (new ≡ old) × (code ≡ refusal_code e)

-- ---- as far as it leads

-- this many bytes come before what is left: all of them if that has no segment
abbrev pub IsPassed : List ℕ → List ℕ → ℕ → Type 0
IsPassed path left count = (before rest : List ℕ) × (path ≡ before ++ rest) × (length before ≡ count)
    × (segments rest ≡ segments left) × (segments rest ≡ [] → rest ≡ [])

-- the path is a text, and its first segments lead from the block's tree to a tree, whose spelling
-- is at the places; what is left of it has no segment, or its first leads nowhere from there
pub record IsFollowedTo (b path : List ℕ) (begin end count : ℕ) (code : ℤ) : Type 0 where
  pub text : IsUtf8 path
  pub tree : Tree
  pub found : Tree
  pub left : List ℕ
  pub led : LeadsInto b (segments path) (segments left) tree found
  pub stopped : EndsWay (segments left) found
  pub passed : IsPassed path left count
  pub part : List ℕ
  pub is_block : IsBlock part found
  pub stands : StandAt b begin part
  pub ends : end ≡ begin + length part
  pub told : code ≡ kind_code (kind_of found)

-- the last item on the path in the block: where it begins and ends, and how many bytes of the path
-- lead there; or the places stay, because the bytes are not a block, or the path is not a text, -37
abbrev pub IsFollowAnswer : List ℕ → List ℕ → List ℕ → List ℕ → ℤ → Type 0
IsFollowAnswer b path old new code =
    ((begin end count : ℕ) × (new ≡ begin ∷ end ∷ count ∷ []) × IsFollowedTo b path begin end count code)
    ⊎ ((new ≡ old) × ((IsUtf8 path × IsRefusedAs b code) ⊎ IsNoText path code))
