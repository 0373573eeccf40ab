-- What callers in other languages get for where the file of version 1 is in a CAR file.
use Rattle.std.specs.Prelude.{◌≡◌, ◌⊎◌, ℕ, ◌+◌, ◌-◌, ◌^◌, ℤ, pos, List, [], ◌∷◌}
use Rattle.std.specs.declared.convert.Infallible.{Infallible}
use Rattle.files_car.specs.Versions.{MayBeVersion2, HasSpan, begin_of, length_of, SpanRefused}
use Rattle.files_car.specs.declared.error.CarError.{CarError}
use Rattle.abi_calls.specs.Codes.{fault_code}

-- if no file of version 2 begins so: 0, and all from the first byte on; or 0, and where the file of
-- version 1 begins and ends; or the number of the cause for which the bytes do not tell, and then
-- nothing is changed
abbrev pub IsSpanAnswer : List ℕ → List ℕ → List ℕ → ℤ → Type 0
IsSpanAnswer b old new code =
    ((¬ MayBeVersion2 b) × (code ≡ pos 0) × (new ≡ 0 ∷ (2 ^ 64 - 1) ∷ []))
    ⊎ ((HasSpan b × (code ≡ pos 0) × (new ≡ begin_of b ∷ (begin_of b + length_of b) ∷ []))
    ⊎ ((e : CarError Infallible) × SpanRefused e b × (code ≡ fault_code e) × (new ≡ old)))
