-- Reading bytes at places.
use Rattle.std.specs.Prelude.{◌≡◌, ℕ, ◌+◌, ◌<◌, List, [], length, take, drop, Bool, if◌then◌else◌, nat_lt, Option, None, Some, Result, IfOk, IfSome, MatchBool}
use Rattle.std.specs.Int.{Width, byte_len, from_le_bytes}

-- if the bytes are known, those that were read are at the place; none are read only after the last
-- byte, or into an empty buffer
abbrev pub ReadsThere : {E : Type 0} → Option (List ℕ) → ℕ → Result ℕ E → List ℕ → Type 0
ReadsThere known place result buf = IfSome known (λ b. IfOk result
    (λ n. (take n buf ≡ take n (drop place b)) × (n ≡ 0 → 0 < length buf → drop place b ≡ [])))

-- the buffer was filled with the bytes at the place; or the bytes end before
abbrev pub FillsFrom : {E : Type 0} → Option (List ℕ) → ℕ → Result Bool E → List ℕ → Type 0
FillsFrom known place result buf = IfSome known (λ b. IfOk result (λ full. MatchBool full
    (buf ≡ take (length buf) (drop place b)) (length b < place + length buf)))

-- the little-endian number of this width at the place; `None` if the bytes end before
abbrev pub number_in : Width → List ℕ → ℕ → Option ℕ
number_in w b place = if nat_lt (length b) (place + byte_len w) then None
    else Some (from_le_bytes w (take (byte_len w) (drop place b)))

-- the answer is that number, if the bytes are known
abbrev pub ReadsNumber : {E : Type 0} → Width → Option (List ℕ) → ℕ → Result (Option ℕ) E → Type 0
ReadsNumber w known place result = IfSome known (λ b. IfOk result (λ found. found ≡ number_in w b place))
