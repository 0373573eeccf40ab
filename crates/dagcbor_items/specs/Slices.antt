-- Reading a slice as one item of any kind.
use Rattle.std.specs.Prelude.{ℕ, ◌<◌, List, ⊤, Result, Ok, Err}
use Rattle.std.specs.declared.convert.Infallible.{Infallible}
use Rattle.dagcbor_heads.specs.Reading.{Reading}
use Rattle.dagcbor_heads.specs.Fronts.{FindsEnd, ShowsByte}
use Rattle.dagcbor_core.specs.declared.error.DecodeError.{DecodeError}
use Rattle.dagcbor_core.specs.declared.error.DecodeError.TheVariants.{Read, OutOfMemory, TrailingData}
use Rattle.dagcbor_decode.specs.Decode.{decode}
use Rattle.dagcbor_decode.specs.Verdicts.{IsRefusal}

-- why a slice is not read: out of memory, or the cause for which `decode` refuses it
abbrev pub SliceRefused : DecodeError Infallible → List ℕ → Type 0
SliceRefused OutOfMemory b = ⊤
SliceRefused e b = IsRefusal (decode b) e

-- the end of the input was found; or bytes are left, and are not taken; or the reader faulted
abbrev pub PullsEnd : {E : Type 0} → Reading → Result (Unit {0}) (DecodeError E) → Reading → Type 0
PullsEnd old (Ok u) new = FindsEnd old new
PullsEnd old (Err TrailingData) new = (byte : ℕ) × ShowsByte old byte new
PullsEnd old (Err (Read e)) new = old.faults < new.faults
PullsEnd old (Err _) new = ⊥
