-- The first line feed of some bytes.
use Rattle.std.proofs.Common.{◌≡◌, ◌≢◌, true, ℕ, ◌<◌, List, length, take, slice_index, All, ap, ◌∙◌, sym, zero-le, arith, Option, None, Some, MatchOption, eqb-true, get_or-take, length-take}
use Rattle.std.proofs.lemmas.List.Elements.{All-from_get_or}
use Rattle.memchr.specs.Find.{IsFirstByte, is_byte}

-- a byte that fails the test for a line feed is not one
other : (x : ℕ) → ¬ (is_byte 10 x ≡ true) → x ≢ 10
other x none e = none (ap (is_byte 10) e)

pub first_feed : (b : List ℕ) (found : Option ℕ) → IsFirstByte (is_byte 10) b found
    → MatchOption found (All (λ x. x ≢ 10) b) (λ at. (at < length b) × (slice_index b at ≡ 10) × All (λ x. x ≢ 10) (take at b))
first_feed b None h = All-from_get_or (λ x. x ≢ 10) b 0 (λ i inside. other (slice_index b i) (h i zero-le inside))
first_feed b (Some at) h = (
  h.0.high,
  eqb-true (slice_index b at) 10 h.1,
  All-from_get_or (λ x. x ≢ 10) (take at b) 0 (λ i inside. none_before i (omega (arith, inside, length-take at b))),
)
  where
    none_before : (i : ℕ) → i < at → slice_index (take at b) i ≢ 10
    none_before i low e = other (slice_index b i) (h.0.before i zero-le low) (sym (get_or-take at b i 0 low) ∙ e)
