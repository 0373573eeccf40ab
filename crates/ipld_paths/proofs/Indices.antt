-- Indices in decimal.
use Rattle.std.proofs.Common.{◌≡◌, ◌≢◌, ◌⊎◌, inl, inr, ℕ, ◌+◌, ◌-◌, ◌*◌, ◌^◌, ◌<◌, List, [], ◌∷◌, length, get_or, true, sym, ap, ◌∙◌, subst, arith, rules, MatchOption, Result, Ok, Err}
use Rattle.std.specs.Fmt.{decimal}
use Rattle.std.specs.Str.{all_ascii_digits}
use Rattle.std.specs.Str.Parse.{ParsesUnsigned}
use Rattle.std.specs.Result.{OkIff, result_ok}
use Rattle.std.proofs.lemmas.Bool.{cases_lt}
use Rattle.std.proofs.lemmas.Str.Parse.{IsNumeralModel, numerals_by_fold, parse_plain}
use Rattle.std.proofs.lemmas.Fmt.{decimal_digit, first_decimal, decimal_nonempty, digits_decimal, digits_value-decimal, decimal-digits_value}

abbrev pub read_on : ℕ → List ℕ → ℕ
read_on n [] = n
read_on n (c ∷ cs) = read_on (10 * n + (c - 48)) cs

abbrev pub AreDigits : List ℕ → Type 0
AreDigits ds = all_ascii_digits ds ≡ true

own : IsNumeralModel AreDigits (read_on 0)
own = numerals_by_fold _ (search rules) read_on (search rules)

-- one digit, or a first digit above 0
first_of_decimal : (n : ℕ) → n < 2 ^ 64 → (decimal n ≡ 48 ∷ []) ⊎ (48 < get_or (decimal n) 0 0)
first_of_decimal n small = elim (cases_lt 0 n) [
  | inl some ↦ inr (first_decimal n some small)
  | inr none ↦ inl (ap decimal {x = n} {y = 0} (omega (arith, none)) ∙ decimal_digit 0 (omega arith))
]

pub no_empty_index : (n : ℕ) (s : List ℕ) → length s ≡ 0 → n < 2 ^ 64 → s ≡ decimal n → ⊥
no_empty_index n s none small is = omega (arith, none, ap length is, decimal_nonempty n small)

pub no_sign : (n : ℕ) (s : List ℕ) → get_or s 0 0 ≡ 43 → n < 2 ^ 64 → s ≡ decimal n → ⊥
no_sign n s plus small is = elim (first_of_decimal n small) [
  | inl zero ↦ omega (arith, plus, ap (λ x. get_or x 0 0) (is ∙ zero))
  | inr more ↦ omega (arith, plus, ap (λ x. get_or x 0 0) is, more)
]

pub no_zero_in_front : (n : ℕ) (s : List ℕ) → get_or s 0 0 ≡ 48 → 1 < length s → n < 2 ^ 64 → s ≡ decimal n → ⊥
no_zero_in_front n s first long small is = elim (first_of_decimal n small) [
  | inl zero ↦ omega (arith, long, ap length (is ∙ zero))
  | inr more ↦ omega (arith, first, ap (λ x. get_or x 0 0) is, more)
]

pub index_read : {E : Type 0} (s : List ℕ) (r : Result ℕ E) → 0 < length s → get_or s 0 0 ≢ 43 → (get_or s 0 0 ≡ 48 → length s ≡ 1) → ParsesUnsigned 64 10 s r
    → MatchOption (result_ok r) ((n : ℕ) → n < 2 ^ 64 → s ≡ decimal n → ⊥) (λ n. s ≡ decimal n)
index_read {E} s (Ok m) some plain alone h =
    let k : OkIff {T = ℕ} {E = E} (Ok m) (AreDigits s × (0 < length s) × (read_on 0 s < 2 ^ 64)) (read_on 0 s) = parse_plain own {E = E} 64 s (Ok m) h plain in
    sym (decimal-digits_value own s k.0.0 some alone k.0.2) ∙ ap decimal (sym k.1)
index_read s (Err e) some plain alone h = λ n small is.
    parse_plain own 64 s (Err e) h plain (
      subst AreDigits (sym is) (digits_decimal own n small),
      some,
      omega (arith, small, ap (read_on 0) is ∙ digits_value-decimal own n small),
    )
