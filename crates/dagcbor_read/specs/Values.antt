-- The law of a type that is read, and what a call does that reads a value by this law.
use Rattle.std.specs.Prelude.{◌≡◌, ℕ, List, Some, true, false, Result, Err, IfErr, MatchResult}
use Rattle.dagcbor_heads.specs.Reading.{Reading}
use Rattle.dagcbor_core.specs.declared.error.DecodeError.{DecodeError}
use Rattle.ipld_tree.specs.Tree.{Tree}
use Rattle.dagcbor_items.specs.TypedReads.{RefusesRead, Reads, HasFront, TakesFront, MayLack, Anything}
use Rattle.dagcbor_read.specs.Deserializers.{DeState}
use Rattle.dagcbor_items.specs.Shapes.{Shape}

-- The law of a type, for a Deserializer that has not failed. After a success nothing has failed.
abbrev pub ReadsValue : {T V E : Type 0} → (T → V) → Shape Tree V → DeState
    → Result T (DecodeError E) → DeState → Type 0
ReadsValue meaning shape old result new = old.failed ≡ false → MatchResult result
    (λ v. (new.failed ≡ false) × TakesFront shape old.input (meaning v) new.input)
    (λ e. RefusesRead (HasFront shape old.input) shape old.input e new.input)

-- A call reads a value as the law of its type says.
abbrev pub ReadsPart : {T V E : Type 0} → (T → V) → Shape Tree V → Reading
    → Result T (DecodeError E) → Reading → Type 0
ReadsPart meaning shape old = Reads meaning shape (MayLack shape.memory old) (shape.wants_loan ≡ true) Anything old

-- If the bytes are known, and a value of several parts cannot be begun, its refusal is that of the
-- call that begins it.
abbrev pub RefusesToBegin : {T A E : Type 0} → (Reading → Type 0)
    → (Reading → Result A (DecodeError E) → Reading → Type 0) → DeState → Result T (DecodeError E)
    → DeState → Type 0
RefusesToBegin could begins old result new = old.failed ≡ false → (b : List ℕ) → old.input.left ≡ Some b → (¬ could old.input) → IfErr result (λ e. (new.failed ≡ true) × begins old.input (Err e) new.input)
