-- What contracts see of an accessor, and what its calls do.
use Rattle.std.specs.Prelude.{◌≡◌, ◌==◌, ℕ, ◌+◌, ◌-◌, ◌^◌, ◌<◌, Bool, false, true, List, ◌++◌, Option, None, Some, option_map, Result, Ok, Err, MatchResult, ⊤}
use Rattle.std.specs.Cow.{cow_str_bytes}
use Rattle.std.specs.declared.borrow.CowStr.{CowStr}
use Rattle.std.specs.declared.alloc.Global.{Global}
use Rattle.dagcbor_core.specs.Head.{head}
use Rattle.dagcbor_heads.specs.Reading.{Reading, with_steps}
use Rattle.dagcbor_heads.specs.Refusals.{RefusesPlainly, RefusesOrLacksMemoryUnlent}
use Rattle.dagcbor_core.specs.Names.{Names}
use Rattle.dagcbor_core.specs.declared.name.Name.{Name}
use Rattle.dagcbor_core.specs.declared.error.DecodeError.{DecodeError}
use Rattle.dagcbor_core.specs.declared.error.DecodeError.TheVariants.{DepthOverflow, LengthMismatch}
use Rattle.ipld_tree.specs.Tree.{Tree}
use Rattle.dagcbor_items.specs.Places.{Follows}
use Rattle.dagcbor_items.specs.ReadCauses.{KeyCause, MajorCause}
use Rattle.dagcbor_items.specs.Entering.{Enters}
use Rattle.dagcbor_items.specs.Entries.{HasKey}
use Rattle.dagcbor_items.specs.AnsweredVariants.{OfHead}
use Rattle.dagcbor_items.specs.TypedReads.{RefusesRead, HasFront, TakesFront, NoStepIfDeep}
use Rattle.dagcbor_read.specs.declared.access.accessor.Accessor.{Accessor}
use Rattle.dagcbor_items.specs.Shapes.{Shape, view_text, leaf}

-- a list or map that was begun
pub record AccessorState : Type 0 where
  -- the name under which it was begun
  pub name : Name
  -- whether it is a map
  pub is_map : Bool
  -- the items or pairs that its head announced, and those that are left; a pair counts as read once
  -- its key is
  pub announced : ℕ
  pub left : ℕ
  -- the key that was read last, and whether its value is still to be read
  pub last : Option (List ℕ)
  pub owes_value : Bool
  -- the steps that its end gives back
  pub steps : ℕ

-- what contracts see of a list or map that was begun
abbrev pub accessor_state : Accessor → AccessorState
accessor_state a = record {
  name = a.name;
  is_map = a.is_map;
  announced = a.announced;
  left = a.left;
  last = option_map cow_str_bytes a.last;
  owes_value = a.owes_value;
  steps = a.steps;
}

-- a list or map of which nothing was read
abbrev pub fresh : Name → Bool → ℕ → ℕ → AccessorState
fresh name is_map count steps = record { name = name; is_map = is_map; announced = count; left = count; last = None; owes_value = false; steps = steps }

-- ---- beginning

-- the head of a list (4) or map (5) is at the front, and a step is left
pub record HasHeadOf (major : ℕ) (r : Reading) : Type 0 where
  pub count : ℕ
  pub rest : List ℕ
  pub fits : count < 2 ^ 64
  pub left : r.left ≡ Some (head major count ++ rest)
  pub step : 0 < r.steps

-- why a list or map of this name is not begun: no step is left, or no head of its major type is at
-- the front
abbrev pub EnterCause : {E : Type 0} → ℕ → List ℕ → DecodeError E → List ℕ → Type 0
EnterCause major name (DepthOverflow n) b = Names n name
EnterCause major name e b = MajorCause name major major e b

-- which variants a refusal may have, even if the bytes are not known
abbrev pub OfBegin : {E : Type 0} → DecodeError E → Type 0
OfBegin (DepthOverflow name) = ⊤
OfBegin e = OfHead e

-- The head of a list or map is taken exactly if one is at the front and a step is left.
abbrev pub ReadsHead : {E : Type 0} → ℕ → List ℕ → Reading → Result ℕ (DecodeError E) → Reading
    → Type 0
ReadsHead major name old result new = MatchResult result
    (λ count. Enters major count old new)
    (λ e. RefusesPlainly (HasHeadOf major old) (EnterCause major name) old e new × NoStepIfDeep old e)

-- A list or map is begun exactly if its head is at the front and a step is left. Its end gives
-- `steps` steps back.
abbrev pub BeginsItems : {E : Type 0} → ℕ → List ℕ → ℕ → Reading → Result Accessor (DecodeError E)
    → Reading → Type 0
BeginsItems major name steps old result new = MatchResult result
    (λ a. (accessor_state a ≡ fresh a.name (major == 5) a.left steps) × Names a.name name × Enters major a.left old new)
    (λ e. RefusesPlainly (HasHeadOf major old) (EnterCause major name) old e new × NoStepIfDeep old e)

-- ---- going on

-- `None` exactly if no item is left, and otherwise the result of the part
abbrev pub ReadsElement : {T V E : Type 0} → (T → V) → Shape Tree V → ℕ → Reading
    → Result (Option T) (DecodeError E) → Reading → Type 0
ReadsElement meaning shape left old (Ok None) new = (left ≡ 0) × (new ≡ old)
ReadsElement meaning shape left old (Ok (Some v)) new = (0 < left)
    × TakesFront shape old (meaning v) new
ReadsElement meaning shape left old (Err e) new = (0 < left)
    × RefusesRead (HasFront shape old) shape old e new

-- after an item was read, one fewer is left
abbrev pub after_element : {T E : Type 0} → Result (Option T) (DecodeError E) → AccessorState
    → AccessorState
after_element (Ok (Some v)) c = record c { left = c.left - 1 }
after_element _ c = c

-- `None` exactly if no pair is left. Otherwise a key is read exactly if it comes after the last
-- one. It runs out of memory only if the input does not lend.
abbrev pub ReadsNextKey : {E : Type 0} → Option (List ℕ) → ℕ → Reading
    → Result (Option (CowStr Global)) (DecodeError E) → Reading → Type 0
ReadsNextKey last left old (Ok None) new = (left ≡ 0) × (new ≡ old)
ReadsNextKey last left old (Ok (Some k)) new = (0 < left) × Follows last (cow_str_bytes k)
    × TakesFront (leaf view_text) old (cow_str_bytes k) new
ReadsNextKey last left old (Err e) new = (0 < left)
    × RefusesOrLacksMemoryUnlent (HasKey last old) (KeyCause last) old e new

-- a key that comes after the last one, and a copy of it
abbrev pub ReadsKeyAfter : {E : Type 0} → Option (List ℕ) → Reading
    → Result (CowStr Global × CowStr Global) (DecodeError E) → Reading → Type 0
ReadsKeyAfter last old result new = MatchResult result
    (λ p. (cow_str_bytes p.1 ≡ cow_str_bytes p.0) × Follows last (cow_str_bytes p.0) × TakesFront (leaf view_text) old (cow_str_bytes p.0) new)
    (λ e. RefusesOrLacksMemoryUnlent (HasKey last old) (KeyCause last) old e new)

-- a key that comes after the last one, and is kept
abbrev pub KeepsKey : {E : Type 0} → Option (List ℕ) → Option (List ℕ) → Reading
    → Result (Unit {0}) (DecodeError E) → Reading → Type 0
KeepsKey last (Some k) old (Ok u) new = Follows last k × TakesFront (leaf view_text) old k new
KeepsKey last None old (Ok u) new = ⊥
KeepsKey last kept old (Err e) new = RefusesOrLacksMemoryUnlent (HasKey last old) (KeyCause last) old e new

-- one pair fewer is left, this is its key, and its value is to be read
abbrev pub with_key : List ℕ → AccessorState → AccessorState
with_key k c = record c { left = c.left - 1; last = Some k; owes_value = true }

-- after a key was read, one pair fewer is left
abbrev pub after_key : {E : Type 0} → Result (Option (CowStr Global)) (DecodeError E)
    → AccessorState → AccessorState
after_key (Ok (Some k)) c = with_key (cow_str_bytes k) c
after_key _ c = c

-- an accessor that owes no value
abbrev pub with_value : AccessorState → AccessorState
with_value c = record c { owes_value = false }

-- after a value was read, it is no longer to be read
abbrev pub after_value : {T E : Type 0} → Result T (DecodeError E) → AccessorState → AccessorState
after_value (Ok v) c = with_value c
after_value (Err e) c = c

-- ---- ending

-- the refusal says that items are unread: how many were read, and how many were announced
abbrev pub LeavesUnread : {E : Type 0} → AccessorState → DecodeError E → Type 0
LeavesUnread c (LengthMismatch name expect value) = (name ≡ c.name)
    × (expect + c.left ≡ c.announced) × (value ≡ c.announced)
LeavesUnread c _ = ⊥

-- A list or map ends exactly if no item is left, and its steps are given back.
abbrev pub EndsItems : {E : Type 0} → AccessorState → Reading → Result (Unit {0}) (DecodeError E)
    → Reading → Type 0
EndsItems c old result new = MatchResult result
    (λ _. (c.left ≡ 0) × (new ≡ with_steps (old.steps + c.steps) old))
    (λ e. (0 < c.left) × LeavesUnread c e × (new ≡ old))
