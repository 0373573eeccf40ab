-- What contracts see of a reader, and what its calls do to it.
use Rattle.std.specs.Prelude.{◌≡◌, ℕ, ◌+◌, ◌-◌, ◌<◌, ◌≤◌, min, List, [], Bool, true, false, length, take, drop, Option, Some}
use Rattle.dagcbor_heads.specs.declared.read.Reference.{Reference}
use Rattle.dagcbor_heads.specs.declared.read.Reference.TheVariants.{Long, Short}

-- the steps left, and the budget that they are left of
pub record StepsLeft : Type 0 where
  pub left : ℕ
  pub budget : ℕ

-- what contracts see of a reader
pub record Reading : Type 0 where
  -- the bytes left, if the source's bytes are known
  pub left : Option (List ℕ)
  -- the bytes that were shown last, or empty if some were taken since
  pub shown : List ℕ
  -- the steps left, and the budget of steps
  pub steps : ℕ
  pub budget : ℕ
  -- whether the bytes shown outlive the reader
  pub lends : Bool
  -- how often the source has faulted
  pub faults : ℕ
  -- how many bytes were looked at: of each fill those that were both wanted and shown, and each
  -- byte that was taken
  pub looked : ℕ
  -- the references (by their ghost names) through which the source is reached
  pub through : List ℕ

-- a new reader, with this many steps
abbrev pub fresh_reading : Option (List ℕ) → ℕ → Bool → List ℕ → Reading
fresh_reading left steps lends through = record {
  left = left;
  shown = [];
  steps = steps;
  budget = steps;
  lends = lends;
  faults = 0;
  looked = 0;
  through = through;
}

-- known bytes are kept
abbrev pub Keeps : Reading → Reading → Type 0
Keeps old new = (b : List ℕ) → old.left ≡ Some b → new.left ≡ Some b

-- known bytes lose their first n
abbrev pub Drops : Reading → ℕ → Reading → Type 0
Drops old n new = (b : List ℕ) → old.left ≡ Some b → new.left ≡ Some (drop n b)

-- the steps, the loan, the faults and the references are as before, whatever was looked at
pub record Stays (old new : Reading) : Type 0 where
  pub steps : new.steps ≡ old.steps
  pub budget : new.budget ≡ old.budget
  pub lends : new.lends ≡ old.lends
  pub faults : new.faults ≡ old.faults
  pub through : new.through ≡ old.through

-- the steps, the loan and the references are as before, however much was taken, shown or looked at,
-- and however often the source faulted
pub record KeepsSteps (old new : Reading) : Type 0 where
  pub steps : new.steps ≡ old.steps
  pub budget : new.budget ≡ old.budget
  pub lends : new.lends ≡ old.lends
  pub through : new.through ≡ old.through

-- no byte was taken, and the steps, the loan and the references are as before
pub record TakesNothing (old new : Reading) : Type 0 where
  pub kept : Keeps old new
  pub same : KeepsSteps old new

-- `shown` is a beginning of the bytes left, empty only at their end or if `want` is 0; if lent, it
-- has all `want` bytes, or all that are left
pub record IsShownOf (b shown : List ℕ) (want : ℕ) (lends : Bool) : Type 0 where
  pub front : take (length shown) b ≡ shown
  pub end : 0 < want → length shown ≡ 0 → b ≡ []
  pub enough : lends ≡ true → min want (length b) ≤ length shown

-- the bytes shown are a beginning of those left, and no byte was taken
pub record Shows (old : Reading) (want : ℕ) (new : Reading) : Type 0 where
  pub kept : Keeps old new
  pub begins : (b : List ℕ) → new.left ≡ Some b → take (length new.shown) b ≡ new.shown
  pub front : (b : List ℕ) → old.left ≡ Some b → IsShownOf b new.shown want old.lends
  pub looked : new.looked ≡ old.looked + min want (length new.shown)
  pub same : Stays old new

-- the source faulted; no byte was taken or looked at, and no byte counts as shown
pub record Fails (old new : Reading) : Type 0 where
  pub kept : Keeps old new
  pub none_shown : new.shown ≡ []
  pub looked : new.looked ≡ old.looked
  pub steps : new.steps ≡ old.steps
  pub budget : new.budget ≡ old.budget
  pub lends : new.lends ≡ old.lends
  pub faults : new.faults ≡ old.faults + 1
  pub through : new.through ≡ old.through

-- n of the bytes shown were taken, and no byte counts as shown any more; if n is 0, nothing is said
-- of what is shown
pub record Advances (old : Reading) (n : ℕ) (new : Reading) : Type 0 where
  pub dropped : Drops old n new
  pub none_shown : 0 < n → new.shown ≡ []
  pub looked : new.looked ≡ old.looked + n
  pub same : Stays old new

-- the same reader with n steps left
abbrev pub with_steps : ℕ → Reading → Reading
with_steps n r = record r { steps = n }

-- a step was spent, and all else is as before
pub record SpentStep (old new : Reading) : Type 0 where
  pub some : 0 < old.steps
  pub is_out : new.steps < new.budget
  pub is : new ≡ with_steps (old.steps - 1) old

-- the bytes of a reference
abbrev pub reference_bytes : Reference → List ℕ
reference_bytes (Long s) = s.now
reference_bytes (Short s) = s.now

-- whether the bytes outlive the reader
abbrev pub is_long : Reference → Bool
is_long (Long s) = true
is_long (Short s) = false
