-- What reading an entry does if a slice has its key whole, and the key is a name of the row.
use Rattle.std.specs.Prelude.{◌≡◌, ℕ, Bool, true, false, List, Option, None, Some, Result, MatchResult, ⊤}
use Rattle.dagcbor_core.specs.declared.error.DecodeError.{DecodeError}
use Rattle.ipld_tree.specs.Tree.{Tree, text}
use Rattle.dagcbor_items.specs.Untyped.{TakesItem}
use Rattle.dagcbor_items.specs.Entries.{HasName}
use Rattle.dagcbor_items.specs.Places.{Follows}
use Rattle.dagcbor_items.specs.Shapes.{Shape, view_text, leaf}
use Rattle.dagcbor_items.specs.TypedReads.{RefusesRead, HasFront, TakesFront}
use Rattle.dagcbor_read.specs.Accessors.{AccessorState, with_key, with_value}
use Rattle.dagcbor_read.specs.Collections.{FieldShape, value_of, HasFields, all_entries}
use Rattle.dagcbor_read.specs.Deserializers.{DeState}

-- this name was next in a slice, after the last key, and it was taken
abbrev pub TakesName : Option (List ℕ) → List ℕ → DeState → DeState → Type 0
TakesName last name old mid = HasName last name old.input × (mid.failed ≡ false)
    × TakesFront (leaf view_text) old.input name mid.input

-- a key after the last one was taken, and `known` holds of it
pub record TakesKnown (known : List ℕ → Type 0) (last : Option (List ℕ)) (old : DeState) (key : List ℕ) (mid : DeState) : Type 0 where
  pub is : known key
  pub follows : Follows last key
  pub read : mid.failed ≡ false
  pub takes : TakesItem 1 old.input (text key) mid.input

-- the next key was taken, `known` holds of it, and its value changed the state to s
pub record TakesField {S : Type 0} (known : List ℕ → Type 0) (shape : FieldShape S) (state : S) (before : AccessorState) (old : DeState) (s : S) (after : AccessorState) (new : DeState) : Type 0 where
  pub key : List ℕ
  pub mid : DeState
  pub begun : TakesKnown known before.last old key mid
  pub counted : after ≡ with_value (with_key key before)
  pub sound : new.failed ≡ false
  pub value : TakesFront (value_of shape state key) mid.input s new.input

-- the next key was taken, `known` holds of it, and its value was refused
pub record RefusesValue {S E : Type 0} (known : List ℕ → Type 0) (shape : FieldShape S) (state : S) (before : AccessorState) (old : DeState) (e : DecodeError E) (new : DeState) : Type 0 where
  pub key : List ℕ
  pub mid : DeState
  pub begun : TakesKnown known before.last old key mid
  pub refused : RefusesRead (HasFront (value_of shape state key) mid.input) (value_of shape state key)
      mid.input e new.input

-- The value of a name that was taken was read, or it was refused.
abbrev pub ReadsNamedValue : {V E : Type 0} → Shape Tree V → AccessorState → DeState → Bool
    → Option (DecodeError E) → Option V → AccessorState → DeState → Type 0
ReadsNamedValue shape before old true refusal (Some v) after new = (after ≡ with_value before)
    × (new.failed ≡ false) × TakesFront shape old.input v new.input
ReadsNamedValue shape before old true refusal None after new = ⊥
ReadsNamedValue shape before old false (Some e) s after new =
    RefusesRead (HasFront shape old.input) shape old.input e new.input
ReadsNamedValue shape before old false None s after new = ⊥

-- The next entry was read, and a slice has its key whole; or its value was refused; or nothing was
-- read.
abbrev pub ReadsNamed : {S E : Type 0} → FieldShape S → S → AccessorState → DeState → Bool
    → Option (DecodeError E) → S → AccessorState → DeState → Type 0
ReadsNamed shape state before old true refusal s after new = TakesField (λ k. HasName before.last k old.input) shape state before old s after new
ReadsNamed shape state before old false (Some e) s after new = RefusesValue (λ k. HasName before.last k old.input) shape state before old e new
ReadsNamed shape state before old false None s after new = (s ≡ state) × (after ≡ before) × (new ≡ old)

-- The next entry was read, whatever its key; or the entries left cannot all be read.
abbrev pub ReadsByKey : {S E : Type 0} → FieldShape S → S → AccessorState → DeState
    → Result (Unit {0}) (DecodeError E) → S → AccessorState → DeState → Type 0
ReadsByKey shape state before old result s after new = MatchResult result
    (λ _. TakesField (λ k. ⊤) shape state before old s after new)
    (λ e. RefusesRead (HasFields shape state before.last before.left old.input)
    (all_entries shape state) old.input e new.input)
