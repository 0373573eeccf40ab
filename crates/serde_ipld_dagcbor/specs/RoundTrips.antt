-- Reading and writing undo each other, unless memory runs out.
use Rattle.std.specs.Prelude.{◌≡◌, ◌⊎◌, ℕ, ◌≤◌, List, Option, Some, Result, Ok, Err, MatchResult, Vec, ⊤}
use Rattle.std.specs.declared.alloc.Global.{Global}
use Rattle.std.specs.declared.convert.Infallible.{Infallible}
use Rattle.dagcbor_core.specs.declared.error.DecodeError.{DecodeError}
use Rattle.dagcbor_core.specs.declared.error.DecodeError.TheVariants as unread
use Rattle.dagcbor_core.specs.declared.error.EncodeError.{EncodeError}
use Rattle.dagcbor_core.specs.declared.error.EncodeError.TheVariants as unwritten
use Rattle.ipld_tree.specs.Tree.{Tree, any_need}
use Rattle.ipld_tree.specs.Spelling.{IsSpelling}
use Rattle.ipld_tree.specs.Ipld.{tree_of}
use Rattle.ipld_tree.specs.declared.ipld.Ipld.{Ipld}
use Rattle.dagcbor_write.specs.Answers.{AreSpellingOf, HasNoSpelling}
use Rattle.dagcbor_read.specs.Whole.{IsWhole, HoldsNoValue, OfWhole}
use Rattle.dagcbor_items.specs.Shapes.{Shape, any_tree}

-- what `to_vec` promises of its result
abbrev pub IsWritten : Option Tree → Result (Vec ℕ Global) (EncodeError Infallible) → Type 0
IsWritten tree written = MatchResult written
    (λ v. AreSpellingOf tree v.items)
    (λ e. (e ≡ unwritten.OutOfMemory) ⊎ HasNoSpelling tree)

-- what `from_slice_with_depth` promises of its result, and `from_slice` at the default budget
abbrev pub IsRead : {T V : Type 0} → (T → V) → Shape Tree V → (steps : ℕ) → List ℕ
    → Result T (DecodeError Infallible) → Type 0
IsRead held shape steps b read = MatchResult read
    (λ v. IsWhole shape steps b (held v))
    (λ e. ((e ≡ unread.OutOfMemory) ⊎ HoldsNoValue shape steps b) × OfWhole e)

-- the bytes were written, or memory ran out
abbrev pub IsWrittenBack : List ℕ → Result (Vec ℕ Global) (EncodeError Infallible) → Type 0
IsWrittenBack b (Ok v) = v.items ≡ b
IsWrittenBack b (Err unwritten.OutOfMemory) = ⊤
IsWrittenBack b (Err _) = ⊥

-- What was read from bytes, within any budget of steps, is written as the same bytes, if the tree
-- of the value is the one in the bytes.
abbrev pub TypedReadThenWritten : {T V : Type 0} → (T → V) → Shape Tree V → (T → Option Tree)
    → Type 0
TypedReadThenWritten {T} held shape tree =
    (steps : ℕ) (b : List ℕ) (value : T)
    (written : Result (Vec ℕ Global) (EncodeError Infallible))
    → ((t : Tree) → IsSpelling b t → shape.view t ≡ Some (held value) → tree value ≡ Some t)
    → IsWhole shape steps b (held value) → IsWritten (tree value) written
    → IsWrittenBack b written

-- What was read from bytes, within any budget of steps, is written as the same bytes.
abbrev pub ReadThenWritten : Type 0
ReadThenWritten = (steps : ℕ) (b : List ℕ) (value : Ipld)
    (written : Result (Vec ℕ Global) (EncodeError Infallible))
    → IsWhole any_tree steps b (tree_of value) → IsWritten (Some (tree_of value)) written
    → IsWrittenBack b written

-- a value with this view was read, or memory ran out
abbrev pub IsReadBack : {T V : Type 0} → (T → V) → V → Result T (DecodeError Infallible) → Type 0
IsReadBack held x (Ok copy) = held copy ≡ x
IsReadBack held x (Err unread.OutOfMemory) = ⊤
IsReadBack held x (Err _) = ⊥

-- What was written for a value is read as the type's view of its tree, within any budget of steps
-- that is not below the need.
abbrev pub TypedWrittenThenRead : {T V : Type 0} → (T → V) → Shape Tree V → (T → Option Tree)
    → Type 0
TypedWrittenThenRead {T} {V} held shape tree =
    (steps : ℕ) (value : T) (t : Tree) (x : V) (v : Vec ℕ Global)
    (read : Result T (DecodeError Infallible))
    → tree value ≡ Some t → shape.view t ≡ Some x → shape.need t ≤ steps
    → AreSpellingOf (tree value) v.items → IsRead held shape steps v.items read
    → IsReadBack held x read

-- What was written for a value is read as its tree, within any budget of steps that is not below
-- the need.
abbrev pub WrittenThenRead : Type 0
WrittenThenRead = (steps : ℕ) (value : Ipld) (v : Vec ℕ Global)
    (read : Result Ipld (DecodeError Infallible))
    → AreSpellingOf (Some (tree_of value)) v.items → any_need (tree_of value) ≤ steps
    → IsRead tree_of any_tree steps v.items read → IsReadBack tree_of (tree_of value) read
