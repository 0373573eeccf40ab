-- Collisions of SHA-256.
use Rattle.std.specs.Prelude.{◌≡◌, ◌≢◌, ℕ, List}
use Rattle.sha2.specs.Sha256.{sha256}

-- two different byte strings have the same SHA-256
abbrev pub Collides : Type 0
Collides = (x y : List ℕ) × (x ≢ y) × (sha256 x ≡ sha256 y)
