-- What reading a value that may be null does.
use Rattle.std.specs.Prelude.{◌≡◌, ◌≢◌, ℕ, ◌+◌, ◌<◌, ◌⊎◌, Bool, List, [], ◌∷◌, Option, Some, option_map, Result, MatchResult, MatchBool, codes}
use Rattle.dagcbor_heads.specs.Reading.{Reading, Keeps}
use Rattle.dagcbor_heads.specs.Fronts.{Takes}
use Rattle.dagcbor_heads.specs.Refusals.{RefusesPlainly}
use Rattle.dagcbor_core.specs.Names.{Names}
use Rattle.dagcbor_core.specs.declared.error.DecodeError.{DecodeError}
use Rattle.dagcbor_core.specs.declared.error.DecodeError.TheVariants.{Eof, DepthOverflow}
use Rattle.dagcbor_core.specs.declared.error.Len.TheVariants.{Small}
use Rattle.ipld_tree.specs.Tree.{Tree}
use Rattle.dagcbor_items.specs.Shapes.{Shape, option_of}
use Rattle.dagcbor_items.specs.TypedReads.{RefusesRead, HasFront, TakesFront, NoStepIfDeep}

-- a null is at the front; or another byte is, and a step is left
pub record CanEnter (r : Reading) : Type 0 where
  pub byte : ℕ
  pub rest : List ℕ
  pub left : r.left ≡ Some (byte ∷ rest)
  pub room : (byte ≡ 0xf6) ⊎ (0 < r.steps)

-- a byte that is not a null is at the front, and a step was spent on it
pub record EntersSome (old new : Reading) : Type 0 where
  pub begins : (b : List ℕ) → old.left ≡ Some b → (byte : ℕ) × (rest : List ℕ) × (b ≡ byte ∷ rest)
      × (byte ≢ 0xf6)
  pub kept : Keeps old new
  pub steps : new.steps + 1 ≡ old.steps
  pub is_out : new.steps < new.budget
  pub budget : new.budget ≡ old.budget
  pub lends : new.lends ≡ old.lends
  pub faults : new.faults ≡ old.faults
  pub through : new.through ≡ old.through

-- why an option is not entered: there is no byte, or no step for a value that is not null
abbrev pub OptionCause : {E : Type 0} → DecodeError E → List ℕ → Type 0
OptionCause (Eof name expect) b = Names name (codes "option") × (expect ≡ Small 1) × (b ≡ [])
OptionCause (DepthOverflow name) b = Names name (codes "option")
OptionCause _ b = ⊥

-- the option is not entered
abbrev pub RefusesToEnter : {E : Type 0} → Reading → DecodeError E → Reading → Type 0
RefusesToEnter old e new = RefusesPlainly (CanEnter old) OptionCause old e new × NoStepIfDeep old e

-- A null was taken, or a step was spent on another value.
abbrev pub EntersOption : {E : Type 0} → Reading → Result Bool (DecodeError E) → Reading → Type 0
EntersOption old result new = MatchResult result
    (λ is_null. MatchBool is_null (Takes old (0xf6 ∷ []) new) (EntersSome old new))
    (λ e. RefusesToEnter old e new)

-- a step was spent, and then the part was refused as its law says
abbrev pub RefusesPart : {V E : Type 0} → Shape Tree V → Reading → DecodeError E → Reading → Type 0
RefusesPart shape old e new = (mid : Reading) × EntersSome old mid
    × RefusesRead (HasFront shape mid) shape mid e new

-- A null is read, or another value as the law of its type says. A refusal is that of the part, or
-- it came before the part, for its own cause.
abbrev pub ReadsOption : {T V E : Type 0} → (T → V) → Shape Tree V → Reading
    → Result (Option T) (DecodeError E) → Reading → Type 0
ReadsOption meaning shape old result new = MatchResult result
    (λ o. TakesFront (option_of shape) old (option_map meaning o) new)
    (λ e. RefusesRead (HasFront (option_of shape) old) shape old e new
    × (RefusesToEnter old e new ⊎ RefusesPart shape old e new))
