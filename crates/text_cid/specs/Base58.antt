-- Bytes as text in base58btc (the alphabet of Bitcoin), if the first byte is not zero: they are the
-- digits of one number.
use Rattle.std.specs.Prelude.{◌≡◌, ℕ, ◌+◌, ◌*◌, ◌<◌, ◌≤◌, List, [], ◌∷◌, map, codes, slice_index, ⊤, reverse}
use Rattle.std.specs.Int.Digits.{AllBelowBase, digits_of, number_from_digits}

-- the symbols: digits and letters, without 0, O, I and l
abbrev pub symbols_58 : List ℕ
symbols_58 = codes "123456789ABCDEFGHJKLMNPQRSTUVWXYZabcdefghijkmnopqrstuvwxyz"

-- the text, in base 58, of the number whose digits are the bytes, the most significant first
unfoldable pub text_in_58 : List ℕ → List ℕ
text_in_58 bytes = map (slice_index symbols_58) (digits_of 58 (number_from_digits 256 bytes))

-- the first byte is not zero
abbrev pub BeginsAboveZero : List ℕ → Type 0
BeginsAboveZero [] = ⊤
BeginsAboveZero (b ∷ bs) = 0 < b

-- the digits of n, the lowest first
pub record AreDigits (base n : ℕ) (digits : List ℕ) : Type 0 where
  pub is : digits ≡ reverse (digits_of base n)

-- digits of a number become those of `times` times the number, plus `plus`
abbrev pub TimesPlus : ℕ → ℕ → ℕ → List ℕ → List ℕ → Type 0
TimesPlus base times plus old new = (n : ℕ) → AreDigits base n old
    → AreDigits base (n * times + plus) new

-- what is required of a base and of what a number is multiplied by
pub record CanTimesPlus (base times plus : ℕ) (digits : List ℕ) : Type 0 where
  pub much : 16 ≤ base
  pub most : base ≤ 256
  pub few : times ≤ 256
  pub less : plus < times
  pub digits_below : AllBelowBase base digits
