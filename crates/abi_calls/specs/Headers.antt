-- What callers in other languages get for the header of a CAR file.
use Rattle.std.specs.Prelude.{◌≡◌, ◌≢◌, ◌⊎◌, ℕ, ℤ, pos, List, length}
use Rattle.std.specs.declared.convert.Infallible.{Infallible}
use Rattle.files_car.specs.Car.{header_bytes}
use Rattle.files_car.specs.Splits.{SplitsHeader, BeginsNoHeader, HeaderFault}
use Rattle.files_car.specs.declared.error.CarError.{CarError}
use Rattle.files_car.specs.declared.error.CarError.TheVariants.{OutOfMemory}
use Rattle.abi_calls.specs.Codes.{header_code}
use Rattle.abi_calls.specs.Packed.{packed_cids}
use Rattle.lent_memory.specs.Puts.{with_front}

-- If the bytes begin with a header: 0, where the header ends, and how many bytes its packed roots
-- need; these are put at the front of the memory if they all fit, and if not, nothing is changed
-- there. Or the number of a cause for which there is no header, never out of memory, and then
-- nothing is needed, and nothing is changed.
abbrev pub IsHeaderAnswer : List ℕ → List ℕ → List ℕ → ℕ → ℕ → ℕ → ℤ → Type 0
IsHeaderAnswer b old new needed before following code =
    ((roots : List (List ℕ)) × (rest : List ℕ) × SplitsHeader b roots rest × (code ≡ pos 0)
    × (needed ≡ length (packed_cids roots)) × (new ≡ with_front (packed_cids roots) old)
    × (following ≡ length (header_bytes roots)))
    ⊎ ((e : CarError Infallible) × BeginsNoHeader b × HeaderFault e b × (e ≢ OutOfMemory)
    × (code ≡ header_code e) × (needed ≡ 0) × (new ≡ old) × (following ≡ before))
