-- Laws of heads.
use Rattle.std.specs.Prelude.{◌≡◌, ℕ, ◌^◌, ◌<◌, List, ◌++◌}
use Rattle.dagcbor_core.specs.Head.{head}

-- Bytes begin with at most one head, whatever follows it.
abbrev pub HeadsAreUnique : Type 0
HeadsAreUnique = (major n other o : ℕ) (x y : List ℕ) → n < 2 ^ 64 → o < 2 ^ 64
    → head major n ++ x ≡ head other o ++ y → (major ≡ other) × (n ≡ o) × (x ≡ y)
