-- What a refusal says.
use Rattle.std.specs.Prelude.{◌≡◌, ℕ, ◌<◌, List, false, Some, Result, MatchResult, ⊤}
use Rattle.dagcbor_heads.specs.Reading.{Reading, SpentStep}
use Rattle.dagcbor_core.specs.Causes.{IsDepthNamed}
use Rattle.dagcbor_core.specs.declared.error.DecodeError.{DecodeError}
use Rattle.dagcbor_core.specs.declared.error.DecodeError.TheVariants.{Read, RequireBorrowed, DepthOverflow, OutOfMemory, Failed}

-- What a call may be refused for.
pub record MayRefuse (E : Type 0) : Type 1 where
  -- whether the call can answer: if so, it is not refused for a cause in the bytes
  pub could : Type 0
  -- whether the call may run out of memory
  pub lacks : Type 0
  -- whether the call may ask for a loan
  pub borrows : Type 0
  -- whether the cause of this refusal is at the front of these bytes
  pub stands : DecodeError E → List ℕ → Type 0

-- A refusal is one of these: a fault of the source, which was counted; out of memory, if the call
-- may run out of it; no loan, if the call may ask for one and the reader does not lend; or a cause
-- at the front of the bytes left, if the call could not answer. If that cause is the depth, no step
-- is left.
abbrev pub Refuses : {E : Type 0} → MayRefuse E → Reading → DecodeError E → Reading → Type 0
Refuses may old (Read e) new = old.faults < new.faults
Refuses may old OutOfMemory new = (new.faults ≡ old.faults) × may.lacks
Refuses may old (RequireBorrowed name) new = (new.faults ≡ old.faults) × may.borrows
    × (old.lends ≡ false)
Refuses may old Failed new = ⊥
Refuses may old (DepthOverflow name) new = (new.faults ≡ old.faults) × (¬ may.could)
    × ((b : List ℕ) → old.left ≡ Some b → may.stands (DepthOverflow name) b) × (new.steps ≡ 0)
Refuses may old e new = (new.faults ≡ old.faults) × (¬ may.could)
    × ((b : List ℕ) → old.left ≡ Some b → may.stands e b)

-- the refusals of a call that takes no memory and wants no loan
abbrev pub RefusesPlainly : {E : Type 0} → (could : Type 0) → (DecodeError E → List ℕ → Type 0)
    → Reading → DecodeError E → Reading → Type 0
RefusesPlainly could stands = Refuses
    (record { could = could; lacks = ⊥; borrows = ⊥; stands = stands })

-- the refusals of a call that may run out of memory and wants no loan
abbrev pub RefusesOrLacksMemory : {E : Type 0} → (could : Type 0)
    → (DecodeError E → List ℕ → Type 0) → Reading → DecodeError E → Reading → Type 0
RefusesOrLacksMemory could stands = Refuses
    (record { could = could; lacks = ⊤; borrows = ⊥; stands = stands })

-- the refusals of a call that wants no loan, and may run out of memory if the reader does not lend
abbrev pub RefusesOrLacksMemoryUnlent : {E : Type 0} → (could : Type 0)
    → (DecodeError E → List ℕ → Type 0) → Reading → DecodeError E → Reading → Type 0
RefusesOrLacksMemoryUnlent could stands old = Refuses
    (record { could = could; lacks = old.lends ≡ false; borrows = ⊥; stands = stands }) old

-- no step was left: the reader is as before, and the refusal is for the depth, under this name
pub record NoStep {E : Type 0} (text : List ℕ) (old : Reading) (e : DecodeError E) (new : Reading)
    : Type 0 where
  pub none : old.steps ≡ 0
  pub same : new ≡ old
  pub named : IsDepthNamed text e

-- A step is spent if and only if one is left.
abbrev pub SpendsStep : {E : Type 0} → List ℕ → Reading → Result (Unit {0}) (DecodeError E)
    → Reading → Type 0
SpendsStep text old result new = MatchResult result (λ _. SpentStep old new)
    (λ e. NoStep text old e new)
