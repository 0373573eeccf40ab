-- What an untyped read returns and refuses.
use Rattle.std.specs.Prelude.{◌≡◌, ◌≢◌, ℕ, ◌+◌, ◌-◌, ◌/◌, ◌%◌, ◌≤◌, false, List, [], ◌∷◌, Option, None, Some, Result, MatchResult, ⊤, Vec, String}
use Rattle.std.specs.BTreeMap.{BTreeMap}
use Rattle.std.specs.declared.alloc.Global.{Global}
use Rattle.dagcbor_heads.specs.Reading.{Reading, Stays}
use Rattle.dagcbor_heads.specs.Refusals.{RefusesPlainly, RefusesOrLacksMemory, RefusesOrLacksMemoryUnlent}
use Rattle.dagcbor_core.specs.declared.error.DecodeError.{DecodeError}
use Rattle.ipld_tree.specs.Tree.{Tree, list, mapping, IsTree, any_need}
use Rattle.ipld_tree.specs.Spelling.{IsSpellable, spelling, IsFront}
use Rattle.ipld_tree.specs.Ipld.{tree_of}
use Rattle.ipld_tree.specs.declared.ipld.Ipld.{Ipld, String as String', List as List', Map as Map'}
use Rattle.dagcbor_items.specs.Shapes.{Shape, takes_some}
use Rattle.dagcbor_items.specs.TypedReads.{HasFront}
use Rattle.dagcbor_items.specs.ReadCauses.{ItemCause}

-- the first of the bytes left, if they are known, has the major type
abbrev pub StartsWithMajor : Reading → ℕ → Type 0
StartsWithMajor r major = (b : List ℕ) → r.left ≡ Some b → (first : ℕ) × (more : List ℕ)
    × (b ≡ first ∷ more) × (first / 32 ≡ major)

-- the same, and the byte is not a break and does not announce an indefinite length
abbrev pub StartsDefinite : Reading → ℕ → Type 0
StartsDefinite r major = (b : List ℕ) → r.left ≡ Some b → (first : ℕ) × (more : List ℕ)
    × (b ≡ first ∷ more) × (first / 32 ≡ major) × (first % 32 ≢ 31)

-- any tree, with this many steps of its need already spent
abbrev pub any_item : ℕ → Shape Tree Tree
any_item spent = record { view = Some; need = λ t. any_need t - spent; wants_loan = false; memory = takes_some }

-- a tree is at the front whose need is within the steps left and those already spent on it
abbrev pub HasItem : ℕ → Reading → Type 0
HasItem spent = HasFront (any_item spent)

-- this tree was at the front, and was taken
pub record TakesItem (spent : ℕ) (old : Reading) (t : Tree) (new : Reading) : Type 0 where
  pub taken : (b : List ℕ) → old.left ≡ Some b → (rest : List ℕ) × IsFront b t rest
      × (any_need t ≤ old.steps + spent) × (new.left ≡ Some rest)
  pub same : Stays old new

-- an item is at the front that was entered, so that one of its steps is spent
abbrev pub HasEnteredItem : Reading → Type 0
HasEnteredItem = HasItem 1

-- an item was taken, on which one step had been spent
abbrev pub TakesEnteredItem : Reading → Tree → Reading → Type 0
TakesEnteredItem = TakesItem 1

-- An item of unknown kind is read, as a value that means a tree, if and only if one is there within
-- the steps left and those already spent on it.
abbrev pub ReadsItemAs : {T E : Type 0} → (T → Tree) → ℕ → Reading → Result T (DecodeError E)
    → Reading → Type 0
ReadsItemAs meaning spent old result new = MatchResult result
    (λ v. TakesItem spent old (meaning v) new)
    (λ e. RefusesOrLacksMemory (HasItem spent old) (ItemCause (old.steps + spent)) old e new)

-- An item of unknown kind is read, as an `Ipld`, if and only if one is there within the steps left
-- and those already spent on it.
abbrev pub ReadsItemSpent : {E : Type 0} → ℕ → Reading → Result Ipld (DecodeError E) → Reading
    → Type 0
ReadsItemSpent = ReadsItemAs tree_of

-- an item is read, on which no step was spent
abbrev pub ReadsItem : {E : Type 0} → Reading → Result Ipld (DecodeError E) → Reading → Type 0
ReadsItem = ReadsItemSpent 0

-- an item is read, on which one step was spent
abbrev pub ReadsEnteredItem : {E : Type 0} → Reading → Result Ipld (DecodeError E) → Reading → Type 0
ReadsEnteredItem = ReadsItemSpent 1

-- an item on which no step was spent is read into a place, and `place` is the place after the call
abbrev pub PutsItem : {E : Type 0} → Ipld → Reading → Result (Unit {0}) (DecodeError E) → Reading
    → Type 0
PutsItem place = ReadsItemAs (λ _. tree_of place) 0

-- an item on which one step was spent is read into a place, and `place` is what is there after the
-- call
abbrev pub PutsEnteredItem : {E : Type 0} → Ipld → Reading → Result (Unit {0}) (DecodeError E)
    → Reading → Type 0
PutsEnteredItem place = ReadsItemAs (λ _. tree_of place) 1

-- the value of an item that was entered is read: a text, the items of a list, the entries of a map
abbrev pub ReadsText : {E : Type 0} → Reading → Result (String Global) (DecodeError E) → Reading
    → Type 0
ReadsText = ReadsItemAs (λ s. tree_of (String' s)) 1

abbrev pub ReadsList : {E : Type 0} → Reading → Result (Vec Ipld Global) (DecodeError E) → Reading
    → Type 0
ReadsList = ReadsItemAs (λ v. tree_of (List' v)) 1

abbrev pub ReadsMap : {E : Type 0} → Reading → Result (BTreeMap (String Global) Ipld) (DecodeError E)
    → Reading → Type 0
ReadsMap = ReadsItemAs (λ m. tree_of (Map' m)) 1

-- A leaf that takes no memory is read if and only if a number, a link or a simple value is there.
abbrev pub ReadsLeaf : {E : Type 0} → Reading → Result Ipld (DecodeError E) → Reading → Type 0
ReadsLeaf old result new = MatchResult result
    (λ v. TakesEnteredItem old (tree_of v) new)
    (λ e. RefusesPlainly (HasEnteredItem old) (ItemCause (old.steps + 1)) old e new)

-- An item of unknown kind is skipped if and only if it can be read. If the input lends, memory does
-- not run out.
abbrev pub SkipsItemSpent : {E : Type 0} → ℕ → Reading → Result (Unit {0}) (DecodeError E) → Reading
    → Type 0
SkipsItemSpent spent old result new = MatchResult result
    (λ _. (t : Tree) × TakesItem spent old t new)
    (λ e. RefusesOrLacksMemoryUnlent (HasItem spent old) (ItemCause (old.steps + spent)) old e new)

-- an item is skipped, on which no step was spent
abbrev pub SkipsItem : {E : Type 0} → Reading → Result (Unit {0}) (DecodeError E) → Reading → Type 0
SkipsItem = SkipsItemSpent 0

-- an item is skipped, on which one step was spent
abbrev pub SkipsEnteredItem : {E : Type 0} → Reading → Result (Unit {0}) (DecodeError E) → Reading
    → Type 0
SkipsEnteredItem = SkipsItemSpent 1

-- the tree is neither a list nor a map
abbrev pub IsLeaf : Tree → Type 0
IsLeaf (list ts) = ⊥
IsLeaf (mapping es) = ⊥
IsLeaf _ = ⊤

-- the byte is the spelling of this simple value, or of no simple value
abbrev pub IsSimple : ℕ → Option Ipld → Type 0
IsSimple byte (Some v) = IsLeaf (tree_of v) × IsTree (tree_of v) × IsSpellable (tree_of v)
    × (spelling (tree_of v) ≡ byte ∷ [])
IsSimple byte None = (0xf4 ≤ byte) → ¬ (byte ≤ 0xf6)
