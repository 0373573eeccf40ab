-- What is at the front of bytes that are all in memory.
use Rattle.std.specs.Prelude.{◌≡◌, ℕ, ◌^◌, ◌<◌, List, ◌++◌}
use Rattle.std.specs.Int.{bytes_high_first}
use Rattle.dagcbor_core.specs.Head.{head}

-- the bytes begin with n in `width` bytes, big-endian, and the rest follows
abbrev pub SplitsNumber : ℕ → List ℕ → ℕ → List ℕ → Type 0
SplitsNumber width b n rest = (n < 256 ^ width) × (n < 2 ^ 64) × (b ≡ bytes_high_first width n ++ rest)

-- the bytes begin with a head, and the rest follows
abbrev pub SplitsHead : List ℕ → (major argument : ℕ) → List ℕ → Type 0
SplitsHead b major argument rest = (major < 8) × (argument < 2 ^ 64) × (b ≡ head major argument ++ rest)

-- the bytes begin with some head
abbrev pub BeginsWithHead : List ℕ → Type 0
BeginsWithHead b = (major argument : ℕ) × (rest : List ℕ) × SplitsHead b major argument rest
