-- The arguments of `event`.
use Rattle.std.specs.Prelude.{◌≡◌, ℕ, List, [], ◌∷◌, codes, Option, None, Some}

-- `event`, and then the file, if one is given
abbrev pub IsEvent : List (List ℕ) → Option (List ℕ) → Type 0
IsEvent words None = words ≡ codes "event" ∷ []
IsEvent words (Some file) = words ≡ codes "event" ∷ file ∷ []
