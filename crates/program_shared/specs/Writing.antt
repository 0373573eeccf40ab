-- What a call writes to a writer whose bytes are known.
use Rattle.std.specs.Prelude.{◌≡◌, ℕ, List, [], ◌++◌, Option, Result, OnOk}
use Rattle.std.specs.Io.KnownBytes.{Appends}

-- a prefix of the bytes was written, and all of them on `Ok`
abbrev pub WritesFront : {A E : Type 0} → Option (List ℕ) → Option (List ℕ) → Result A E → List ℕ
    → Type 0
WritesFront old new r bytes = (front back : List ℕ) × (bytes ≡ front ++ back)
    × Appends old new front × OnOk r (back ≡ [])
