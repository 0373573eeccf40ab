-- How much of a file is left in a reader: n bytes (`Some n`), or all there are (`None`).
use Rattle.std.specs.Prelude.{◌≡◌, ℕ, ◌+◌, ◌-◌, List, length, take, Option, None, Some, option_map}
use Rattle.dagcbor_heads.specs.Reading.{Reading}
use Rattle.dagcbor_heads.specs.Fronts.{FindsEnd, Takes}

-- the bytes left that belong to the file
abbrev pub bytes_within : Option ℕ → List ℕ → List ℕ
bytes_within None b = b
bytes_within (Some n) b = take n b

-- how many bytes of the file are missing
abbrev pub wanting : Option ℕ → List ℕ → ℕ
wanting None b = 0
wanting (Some n) b = n - length b

-- the reader, seen as having only the bytes of the file left
abbrev pub of_file : Option ℕ → Reading → Reading
of_file extent r = record r { left = option_map (bytes_within extent) r.left }

-- n bytes of the file were taken, if its length is known, and the others are left
abbrev pub Spends : Option ℕ → ℕ → Option ℕ → Type 0
Spends old n new = old ≡ option_map (λ m. m + n) new

-- these bytes were at the front, within the file, and were taken
pub record TakesOff (extent : Option ℕ) (old : Reading) (bytes : List ℕ) (rest : Option ℕ) (new : Reading) : Type 0 where
  pub takes : Takes old bytes new
  pub spends : Spends extent (length bytes) rest

-- The file ends there. If its length is known, the reader is not asked.
abbrev pub EndsThere : Option ℕ → Reading → Option ℕ → Reading → Type 0
EndsThere None old rest new = FindsEnd old new × (rest ≡ None)
EndsThere (Some n) old rest new = (n ≡ 0) × (new ≡ old) × (rest ≡ Some n)
