-- What contracts see of an enum that was begun, and what its calls do.
use Rattle.std.specs.Prelude.{◌≡◌, ◌≢◌, ◌⊎◌, ℕ, ◌+◌, ◌-◌, ◌/◌, ◌<◌, Bool, true, false, List, [], ◌∷◌, Some, Result, MatchResult, MatchBool, IfOk, codes, ⊤}
use Rattle.dagcbor_heads.specs.Reading.{Reading, with_steps}
use Rattle.dagcbor_heads.specs.Fronts.{Takes, ShowsByte}
use Rattle.dagcbor_heads.specs.Refusals.{RefusesPlainly}
use Rattle.dagcbor_core.specs.Names.{Names}
use Rattle.dagcbor_core.specs.declared.error.DecodeError.{DecodeError}
use Rattle.dagcbor_core.specs.declared.error.DecodeError.TheVariants.{Eof, Mismatch, DepthOverflow}
use Rattle.dagcbor_core.specs.declared.error.Len.TheVariants.{Small}
use Rattle.ipld_tree.specs.Tree.{Tree}
use Rattle.std.specs.Cow.{cow_str_bytes}
use Rattle.std.specs.declared.borrow.CowStr.{CowStr}
use Rattle.std.specs.declared.alloc.Global.{Global}
use Rattle.dagcbor_items.specs.Shapes.{view_text, leaf, Shape}
use Rattle.dagcbor_items.specs.ReadCauses.{TextCause}
use Rattle.dagcbor_read.specs.Deserializers.{DeState}
use Rattle.dagcbor_items.specs.AnsweredVariants.{OfByte}
use Rattle.dagcbor_items.specs.TypedReads.{RefusesRead, Reads, HasFront, TakesFront, NoStepIfDeep}
use Rattle.dagcbor_read.specs.Accessors.{BeginsItems}
use Rattle.dagcbor_read.specs.declared.access.accessor.Accessor.{Accessor}
use Rattle.dagcbor_read.specs.declared.access.enum_accessor.EnumAccessor.{EnumAccessor}

-- an enum that was begun
pub record EnumState : Type 0 where
  -- its first byte
  pub first : ℕ
  -- whether it is a map of one pair, from the variant's name to what it holds, and not the name
  -- alone
  pub in_map : Bool
  -- the steps that its end gives back
  pub steps : ℕ

-- what contracts see of an enum that was begun
abbrev pub enum_state : EnumAccessor → EnumState
enum_state a = record { first = a.first; in_map = a.in_map; steps = a.steps }

-- ---- beginning

-- an enum may begin here: the first byte of a text, or a1
pub record HasEnum (r : Reading) : Type 0 where
  pub byte : ℕ
  pub rest : List ℕ
  pub left : r.left ≡ Some (byte ∷ rest)
  pub accepted : (byte ≡ 0xa1) ⊎ (byte / 32 ≡ 3)

-- the first byte of a text is at the front, and stays; or a1 was there, and was taken
abbrev pub TakesForm : EnumState → Reading → Reading → Type 0
TakesForm e old new = MatchBool e.in_map
    ((e.first ≡ 0xa1) × Takes old (0xa1 ∷ []) new)
    ((e.first / 32 ≡ 3) × ShowsByte old e.first new)

-- why an enum is not begun: there is no byte, or it begins no enum
abbrev pub EnumCause : {E : Type 0} → DecodeError E → List ℕ → Type 0
EnumCause (Eof name expect) b = Names name (codes "enum") × (expect ≡ Small 1) × (b ≡ [])
EnumCause (Mismatch name found) b = Names name (codes "enum")
    × ((more : List ℕ) × (b ≡ found ∷ more) × (found ≢ 0xa1) × (found / 32 ≢ 3))
EnumCause _ b = ⊥

-- An enum is begun exactly if one may begin here. It takes no step.
abbrev pub BeginsEnum : {E : Type 0} → Reading → Result EnumAccessor (DecodeError E) → Reading
    → Type 0
BeginsEnum old result new = MatchResult result
    (λ a. ((enum_state a).steps ≡ 0) × TakesForm (enum_state a) old new)
    (λ e. RefusesPlainly (HasEnum old) EnumCause old e new)

-- why an enum that takes a step is not begun
abbrev pub StepEnumCause : {E : Type 0} → List ℕ → DecodeError E → List ℕ → Type 0
StepEnumCause name (DepthOverflow n) b = Names n name
StepEnumCause name e b = EnumCause e b

-- which variants a refusal may have, even if the bytes are not known
abbrev pub OfForm : {E : Type 0} → DecodeError E → Type 0
OfForm (DepthOverflow name) = ⊤
OfForm e = OfByte e

-- an enum may begin here, and a step is left
abbrev pub HasStepEnum : Reading → Type 0
HasStepEnum r = HasEnum r × (0 < r.steps)

-- An enum is begun exactly if one may begin here and a step is left. The step is spent.
abbrev pub SpendsEnum : {E : Type 0} → List ℕ → Reading → Result EnumAccessor (DecodeError E)
    → Reading → Type 0
SpendsEnum name old result new = MatchResult result
    (λ a. ((enum_state a).steps ≡ 1) × (0 < old.steps) × (new.steps < new.budget) × TakesForm (enum_state a) (with_steps (old.steps - 1) old) new)
    (λ e. RefusesPlainly (HasStepEnum old) (StepEnumCause name) old e new × NoStepIfDeep old e)

-- ---- the variant

-- why a variant of this form is refused: the enum has the other form
abbrev pub IsOtherForm : {E : Type 0} → EnumState → DecodeError E → Type 0
IsOtherForm e (Mismatch name found) = Names name (codes "enum") × (found ≡ e.first)
IsOtherForm e _ = ⊥

-- A variant's name is read exactly if a text is at the front. If the input lends, it takes no
-- memory.
abbrev pub ReadsName : {E : Type 0} → Reading
    → Result (CowStr Global × EnumAccessor) (DecodeError E) → Reading → Type 0
ReadsName old = Reads (λ v. cow_str_bytes v.0) (leaf view_text) (old.lends ≡ false) ⊥ (TextCause (codes "string")) old

-- The enum has the form of a map; if it has the other form, it is refused. Nothing is read.
abbrev pub EntersMap : {E : Type 0} → EnumState → Reading → Result (Unit {0}) (DecodeError E)
    → Reading → Type 0
EntersMap e old result new = MatchResult result
    (λ _. (e.in_map ≡ true) × (new ≡ old))
    (λ r. (e.in_map ≡ false) × IsOtherForm e r × (new ≡ old))

-- The list or map that a variant holds is begun as any other, exactly if the enum has the form of a
-- map. Its end gives the enum's steps back too.
abbrev pub BeginsHeld : {E : Type 0} → ℕ → List ℕ → EnumState → Reading
    → Result Accessor (DecodeError E) → Reading → Type 0
BeginsHeld major name e old result new = MatchBool e.in_map
    (BeginsItems major name (e.steps + 1) old result new)
    (MatchResult result (λ _. ⊥) (λ r. IsOtherForm e r × (new ≡ old)))

-- A variant that is its name alone ends exactly if the enum has that form. Its steps are given
-- back.
abbrev pub EndsUnit : {E : Type 0} → EnumState → Reading → Result (Unit {0}) (DecodeError E)
    → Reading → Type 0
EndsUnit e old result new = MatchResult result
    (λ _. (e.in_map ≡ false) × (new ≡ with_steps (old.steps + e.steps) old))
    (λ r. (e.in_map ≡ true) × IsOtherForm e r × (new ≡ old))

-- The enum has the form of a map. What the variant holds was taken, with the view v, and then the
-- enum's steps were given back.
abbrev pub TakesHeld : {V : Type 0} → Shape Tree V → EnumState → Reading → V → Reading → Type 0
TakesHeld shape e old v new = (e.in_map ≡ true)
    × ((now : Reading) × TakesFront shape old v now × (new ≡ with_steps (now.steps + e.steps) now))

-- What a variant holds is read as the law of its type says, exactly if the enum has the form of a
-- map.
abbrev pub ReadsHeld : {T V E : Type 0} → (T → V) → Shape Tree V → EnumState → Reading
    → Result T (DecodeError E) → Reading → Type 0
ReadsHeld meaning shape e old result new = MatchResult result
    (λ v. TakesHeld shape e old (meaning v) new)
    (λ r. MatchBool e.in_map (RefusesRead (HasFront shape old) shape old r new)
    (IsOtherForm e r × (new ≡ old)))

-- If nothing had failed, the fields that a variant holds are read as the law of their type says. If
-- they are read, nothing has failed.
abbrev pub ReadsFieldsHeld : {T V E : Type 0} → (T → V) → Shape Tree V → EnumState → DeState
    → Result T (DecodeError E) → DeState → Type 0
ReadsFieldsHeld meaning shape e old result new = old.failed ≡ false → IfOk result (λ v. new.failed ≡ false) × ReadsHeld meaning shape e old.input result new.input
