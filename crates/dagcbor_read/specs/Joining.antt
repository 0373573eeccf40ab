-- How a group of fields comes before others: together they are one flat row, by computation.
use Rattle.std.specs.Prelude.{◌≡◌, ℕ, Bool, true, false, List, [], ◌∷◌, Option, None, Some, option_map, option_and_then, if◌then◌else◌, bytes_eq}
use Rattle.dagcbor_core.specs.declared.error.DecodeError.{DecodeError}
use Rattle.ipld_tree.specs.Tree.{Tree}
use Rattle.dagcbor_items.specs.Entries.{HasName}
use Rattle.dagcbor_items.specs.Shapes.{Shape}
use Rattle.dagcbor_items.specs.TypedReads.{RefusesRead, HasFront, TakesFront}
use Rattle.dagcbor_read.specs.Accessors.{AccessorState, with_key, with_value}
use Rattle.dagcbor_read.specs.Collections.{FieldShape, value_of, slot_of}
use Rattle.dagcbor_read.specs.Deserializers.{DeState}
use Rattle.dagcbor_read.specs.Named.{TakesKnown}

-- ---- what a group takes by itself

-- What a group makes of the value of a key, if its row has these names; `None` if the key does not
-- belong to the group.
abbrev pub OwnShape : Type 0 → Type 0
OwnShape O = List (List ℕ) → O → List ℕ → Option (Shape Tree O)

-- the names after the first
abbrev pub after_first : List (List ℕ) → List (List ℕ)
after_first [] = []
after_first (name ∷ names) = names

-- a field that has the first name
abbrev pub field_own : {V : Type 0} → Shape Tree V → OwnShape (Option V)
field_own shape [] own k = None
field_own shape (name ∷ names) own k = if bytes_eq k name then Some (slot_of shape) else None

-- the shape with its view mapped by f
abbrev pub beside : {V W : Type 0} → (V → W) → Shape Tree V → Shape Tree W
beside f shape = record {
  view = λ t. option_map f (shape.view t);
  need = shape.need;
  wants_loan = shape.wants_loan;
  memory = shape.memory;
}

-- the value goes to the first of two groups, or to the second
abbrev pub either_own : {A B : Type 0} → A → B → Option (Shape Tree A) → Option (Shape Tree B)
    → Option (Shape Tree (A × B))
either_own a b (Some first) second = Some (beside (λ x. (x, b)) first)
either_own a b None second = option_map (beside (λ x. (a, x))) second

-- two groups, the names of the second after those of the first
abbrev pub own_of_both : {A B : Type 0} → OwnShape A → (List (List ℕ) → List (List ℕ)) → OwnShape B
    → OwnShape (A × B)
own_of_both first following second names own k =
    either_own own.0 own.1 (first names own.0 k) (second (following names) own.1 k)

-- ---- a group before others

-- what a group holds, put before what others hold
abbrev pub HeldBefore : (Type 0 → Type 0) → Type 0 → Type 1
HeldBefore Held O = (S : Type 0) → O → S → Held S

-- what a group and others make of the value of a key
abbrev pub ShapeBefore : (Type 0 → Type 0) → Type 1
ShapeBefore Held = (S : Type 0) → (List (List ℕ) → FieldShape S) → List (List ℕ)
    → FieldShape (Held S)

-- The whole has the view of a part, within the same steps, and wants what the part wants.
pub record IsLike {V W : Type 0} (held : V → W) (part : Shape Tree V) (whole : Shape Tree W) : Type 0 where
  pub view : (t : Tree) → whole.view t ≡ option_map held (part.view t)
  pub need : (t : Tree) → whole.need t ≡ part.need t
  pub loan : part.wants_loan ≡ true → whole.wants_loan ≡ true
  pub memory : (lends : Bool) → part.memory lends ≡ true → whole.memory lends ≡ true

-- The value goes to the group if the key is its own, and otherwise to the others.
abbrev pub GoesTo : {O S H : Type 0} → (O → S → H) → Option (Shape Tree O) → O → S → Shape Tree S
    → Shape Tree H → Type 0
GoesTo held (Some shape) own s others whole = IsLike (λ o. held o s) shape whole
GoesTo held None own s others whole = IsLike (held own) others whole

-- Whatever others come after the group, the value of a key goes to the group or to them.
abbrev pub JoinsShape : (O : Type 0) (Held : Type 0 → Type 0) → HeldBefore Held O
    → ShapeBefore Held → (List (List ℕ) → List (List ℕ)) → OwnShape O → Type 1
JoinsShape O Held held before following own_shape = (S : Type 0)
    → (others : List (List ℕ) → FieldShape S) (names : List (List ℕ)) (own : O) (s : S) (k : List ℕ)
    → GoesTo (held S) (own_shape names own k) own s (value_of (others (following names)) s k)
    (value_of (before S others names) (held S own s) k)

-- the view of a group and others once all was read; `None` if something is missing
abbrev pub FinishBefore : (Type 0 → Type 0) → (Type 0 → Type 0) → Type 1
FinishBefore Held Shows = (S W : Type 0) → (S → Option W) → Held S → Option (Shows W)

-- the view of both, if both are there
abbrev pub both_there : {V W X : Type 0} → (V → W → X) → Option V → Option W → Option X
both_there shows own others = option_and_then (λ v. option_map (shows v) others) own

-- Whatever others come after a group, both have a view exactly if each has one.
abbrev pub JoinsFinish : (O V : Type 0) (Held Shows : Type 0 → Type 0) → HeldBefore Held O
    → HeldBefore Shows V → (O → Option V) → FinishBefore Held Shows → Type 1
JoinsFinish O V Held Shows held shows finish before = (S W : Type 0) → (others : S → Option W)
    → (own : O) (s : S)
    → before S W others (held S own s) ≡ both_there (shows W) (finish own) (others s)

-- two groups have a view if each has one
abbrev pub finish_both : {A B V W : Type 0} → (A → Option V) → (B → Option W) → A × B
    → Option (V × W)
finish_both first second own = both_there (λ v w. (v, w)) (first own.0) (second own.1)

-- ---- how a group is read, where a slice has the key whole

-- the next key was taken: `known` holds of it, it is the group's own, and its value gave o
pub record TakesOwn {O : Type 0} (known : List ℕ → Type 0) (shape : O → List ℕ → Option (Shape Tree O)) (own : O) (before : AccessorState) (old : DeState) (o : O) (after : AccessorState) (new : DeState) : Type 0 where
  pub key : List ℕ
  pub mid : DeState
  pub of_key : Shape Tree O
  pub begun : TakesKnown known before.last old key mid
  pub is_own : shape own key ≡ Some of_key
  pub counted : after ≡ with_value (with_key key before)
  pub sound : new.failed ≡ false
  pub value : TakesFront of_key mid.input o new.input

-- the next key was taken: `known` holds of it, it is the group's own, and its value was refused
pub record RefusesOwn {O E : Type 0} (known : List ℕ → Type 0) (shape : O → List ℕ → Option (Shape Tree O)) (own : O) (before : AccessorState) (old : DeState) (e : DecodeError E) (new : DeState) : Type 0 where
  pub key : List ℕ
  pub mid : DeState
  pub of_key : Shape Tree O
  pub begun : TakesKnown known before.last old key mid
  pub is_own : shape own key ≡ Some of_key
  pub refused : RefusesRead (HasFront of_key mid.input) of_key mid.input e new.input

-- nothing was read, and no slice has one of the group's names as its next key
pub record PassesOn {O : Type 0} (shape : O → List ℕ → Option (Shape Tree O)) (own : O) (before : AccessorState) (old : DeState) (o : O) (after : AccessorState) (new : DeState) : Type 0 where
  pub kept : o ≡ own
  pub counted : after ≡ before
  pub same : new ≡ old
  pub other : (k : List ℕ) → HasName before.last k old.input → shape own k ≡ None

-- The next entry was read, and its key belongs to the group; or its value was refused; or the entry
-- was left to others.
abbrev pub ReadsOwnNamed : {O E : Type 0} → (O → List ℕ → Option (Shape Tree O)) → O
    → AccessorState → DeState → Bool → Option (DecodeError E) → O → AccessorState → DeState → Type 0
ReadsOwnNamed shape own before old true refusal o after new = TakesOwn (λ k. HasName before.last k old.input) shape own before old o after new
ReadsOwnNamed shape own before old false (Some e) o after new = RefusesOwn (λ k. HasName before.last k old.input) shape own before old e new
ReadsOwnNamed shape own before old false None o after new = PassesOn shape own before old o after new
