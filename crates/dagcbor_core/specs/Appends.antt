-- Bytes that grow at their end.
use Rattle.std.specs.Prelude.{◌≡◌, ℕ, List, ◌++◌, Option}
use Rattle.std.specs.Io.KnownBytes.{Appends}

-- known bytes have some bytes appended, and keep those held before
abbrev pub AppendsSome : Option (List ℕ) → Option (List ℕ) → Type 0
AppendsSome old new = (more : List ℕ) × Appends old new more

-- known bytes have a beginning of bs appended
abbrev pub AppendsFront : Option (List ℕ) → Option (List ℕ) → List ℕ → Type 0
AppendsFront old new bs = (front : List ℕ) × (rest : List ℕ) × (bs ≡ front ++ rest)
    × Appends old new front
