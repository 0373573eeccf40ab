-- The first bytes of a file, which show its version.
use Rattle.std.specs.Prelude.{◌≡◌, ℕ, List, [], ◌∷◌, ◌++◌, take, Option, Some, MatchOption}

-- the first byte is taken, if there is one
abbrev pub TakesByte : List ℕ → Option ℕ → Option (List ℕ) → Type 0
TakesByte b byte left = MatchOption byte
    ((b ≡ []) × (left ≡ Some []))
    (λ x. (rest : List ℕ) × (b ≡ x ∷ rest) × (left ≡ Some rest))

-- the first `n` bytes, or all if there are fewer, are taken
abbrev pub TakesFront : ℕ → List ℕ → List ℕ → Option (List ℕ) → Type 0
TakesFront n b front left = (rest : List ℕ) × (b ≡ front ++ rest) × (left ≡ Some rest)
    × (front ≡ take n b)
