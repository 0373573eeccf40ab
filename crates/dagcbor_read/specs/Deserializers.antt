-- What contracts see of a Deserializer, and what its calls do to it.
use Rattle.std.specs.Prelude.{◌≡◌, ℕ, ◌+◌, ◌<◌, ◌≤◌, Bool, true, false, Result, Ok, Err, is_err, MatchBool, MatchResult}
use Rattle.dagcbor_heads.specs.Reading.{Reading}
use Rattle.dagcbor_heads.specs.Fronts.{FindsEnd, ShowsByte}
use Rattle.dagcbor_heads.specs.Looking.{LooksOnce, LooksAtTaken, LooksAtLeft}
use Rattle.dagcbor_heads.specs.Inputs.{input_reading}
use Rattle.dagcbor_core.specs.declared.error.DecodeError.{DecodeError}
use Rattle.dagcbor_core.specs.declared.error.DecodeError.TheVariants.{Read, TrailingData, Failed}
use Rattle.dagcbor_read.specs.declared.deserializer.Deserializer.{Deserializer}

-- a Deserializer
pub record DeState : Type 0 where
  -- its reader
  pub input : Reading
  -- whether a call was refused
  pub failed : Bool

-- what contracts see of a `Deserializer` over a reader
abbrev pub de_state : {R : Type 0} → (R → Reading) → Deserializer R → DeState
de_state reading de = record { input = input_reading reading de.input; failed = de.failed }

-- What a call does to a Deserializer over a reader.
abbrev pub Over : {R A : Type 0} → (R → Reading) → (DeState → A → DeState → Type 0)
    → Deserializer R → A → Deserializer R → Type 0
Over reading does old result new = does (de_state reading old) result (de_state reading new)

-- A call on a Deserializer that has failed returns `Failed`, and changes nothing. Any other call
-- reads, and the Deserializer has failed exactly if the call was refused.
abbrev pub Call : {T E : Type 0} → (Reading → Result T (DecodeError E) → Reading → Type 0)
    → DeState → Result T (DecodeError E) → DeState → Type 0
Call reads old result new = MatchBool old.failed
    ((result ≡ Err Failed) × (new ≡ old))
    ((new.failed ≡ is_err result) × reads old.input result new.input)

-- A Deserializer that has failed returns `Failed`, and stays as it is.
abbrev pub StaysFailed : {T E : Type 0} → DeState → Result T (DecodeError E) → DeState → Type 0
StaysFailed old result new = old.failed ≡ true → (result ≡ Err Failed) × (new ≡ old)

-- If nothing has failed, this many steps are spent and may be given back.
abbrev pub AreOut : ℕ → DeState → Type 0
AreOut steps de = de.failed ≡ false → 0 < steps → de.input.steps + steps ≤ de.input.budget

-- The first byte was taken, with at most three looks at it; or it stays, with one look.
abbrev pub LooksAtFirst : {T E : Type 0} → (T → Bool) → Reading → Result T E → Reading → Type 0
LooksAtFirst is_taken old result new = MatchResult result
    (λ v. MatchBool (is_taken v) (LooksAtTaken 3 0 old new) (LooksOnce old new))
    (λ _. LooksAtLeft 3 0 old new)

-- The end of the input was found; or bytes after the item were, and they stay, and nothing has
-- failed; or the reader faulted.
abbrev pub TellsEnd : {E : Type 0} → Reading → Result (Unit {0}) (DecodeError E) → Reading → Bool
    → Type 0
TellsEnd old (Ok u) new failed = (failed ≡ false) × FindsEnd old new
TellsEnd old (Err TrailingData) new failed = (failed ≡ false) × (byte : ℕ) × ShowsByte old byte new
TellsEnd old (Err (Read e)) new failed = (failed ≡ true) × (old.faults < new.faults)
TellsEnd old (Err _) new failed = ⊥

-- what `end` does: after a refusal, it returns `Failed`
abbrev pub Ends : {E : Type 0} → DeState → Result (Unit {0}) (DecodeError E) → DeState → Type 0
Ends old result new = MatchBool old.failed
    ((result ≡ Err Failed) × (new ≡ old))
    (TellsEnd old.input result new.input new.failed)
