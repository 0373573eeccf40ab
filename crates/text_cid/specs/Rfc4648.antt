-- Bytes as text of 2 ^ w symbols (RFC 4648: base32 in section 6, base16 in section 8), without
-- padding, as in multibase.
use Rattle.std.specs.Prelude.{ℕ, zero, suc, ◌+◌, ◌-◌, ◌*◌, ◌/◌, ◌%◌, List, [], ◌∷◌, ◌++◌, length, map, take, drop, replicate, slice_index, flat_map}
use Rattle.std.specs.Int.Digits.{number_from_digits}

-- the lowest n bits of x, the most significant first
unfoldable pub bits : ℕ → ℕ → List ℕ
bits zero x = []
bits (suc n) x = bits n (x / 2) ++ x % 2 ∷ []

-- the first n groups of w bits, each read as a number
unfoldable pub groups : ℕ → ℕ → List ℕ → List ℕ
groups w zero b = []
groups w (suc n) b = number_from_digits 2 (take w b) ∷ groups w n (drop w b)

-- how many groups of w bits n bytes fill or begin
abbrev pub group_count : ℕ → ℕ → ℕ
group_count w n = (8 * n + (w - 1)) / w

-- how many bits the last group lacks
abbrev pub lacking : ℕ → ℕ → ℕ
lacking w n = group_count w n * w - 8 * n

-- the bits of the bytes, and zero bits on the right that fill the last group
abbrev pub message_bits : ℕ → List ℕ → List ℕ
message_bits w bytes = flat_map (bits 8) bytes ++ replicate (lacking w (length bytes)) 0

-- the bytes in groups of w bits, each group as the symbol at that index
unfoldable pub text_in_groups : ℕ → List ℕ → List ℕ → List ℕ
text_in_groups w symbols bytes =
    map (slice_index symbols) (groups w (group_count w (length bytes)) (message_bits w bytes))
