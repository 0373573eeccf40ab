-- Numbers of JSON without a fraction and an exponent.
use Rattle.std.proofs.Common.{◌≡◌, ℕ, ℤ, pos, negsuc, ◌^◌, ◌<◌, ◌≤◌, List, [], ◌∷◌, Bool, true, false, cond, ◌&&◌, ◌||◌, ◌==◌, refl, sym, ap, ◌∙◌, arith, FitsSigned, drop, subst, Ok, Err, true≢false, ltb-true, leb-true, ne_eqb}
use Rattle.std.specs.Int.{w128}
use Rattle.std.specs.Char.{is_ascii_digit, digit_value}
use Rattle.std.specs.Str.Parse.{AllDigits, IsNumeral, signed_digits_value, without_leading_sign}
use Rattle.std.proofs.lemmas.Bool.{false_from_ne_true}
use Rattle.std.proofs.lemmas.Str.{digit_value_digit}
use Rattle.ipld_tree.specs.Tree.{integer}
use Rattle.text_dag_json.specs.Reading.{are_digits, is_whole, is_in_range, number_data}
use Rattle.text_dag_json.specs.declared.error.DagJsonError.TheVariants.{Float, OutOfRange}

both : (a b : Bool) → (a && b) ≡ true → (a ≡ true) × (b ≡ true)
both true true h = (refl, refl)
both true false h = absurd cc
both false b h = absurd cc

digit_bounds : (c : ℕ) → is_ascii_digit c ≡ true → (48 ≤ c) × (c ≤ 57)
digit_bounds c h = let k = both _ _ h in (leb-true 48 c k.0, leb-true c 57 k.1)

digit_below : (c : ℕ) → is_ascii_digit c ≡ true → digit_value c < 10
digit_below c h = let k = digit_bounds c h in omega (arith, digit_value_digit c k, k.0, k.1)

all_digits : (cs : List ℕ) → are_digits cs ≡ true → AllDigits 10 cs
all_digits [] h = tt
all_digits (c ∷ cs) h = let k = both _ _ h in (digit_below c k.0, all_digits cs k.1)

-- after a digit no sign is dropped
pub no_sign : (c : ℕ) (cs : List ℕ) → is_ascii_digit c ≡ true → without_leading_sign (c ∷ cs) ≡ c ∷ cs
no_sign c cs h =
    let k = digit_bounds c h in
    ap (λ b. cond b cs (drop (cond (c == 43) 1 0) (c ∷ cs))) (ne_eqb c 45 (λ e. omega (arith, k.0)))
    ∙ ap (λ b. drop (cond b 1 0) (c ∷ cs)) (ne_eqb c 43 (λ e. omega (arith, k.0)))

whole_numeral : (s : List ℕ) → is_whole s ≡ true → IsNumeral 10 (without_leading_sign s)
whole_numeral [] h = absurd (true≢false (sym h))
whole_numeral (c ∷ []) h = subst (IsNumeral 10) (sym (no_sign c [] h)) (omega arith, (digit_below c h, tt))
whole_numeral (c ∷ d ∷ cs) h = by (is_ascii_digit c) refl
  where
    rest : are_digits (d ∷ cs) ≡ true
    rest = (both (is_ascii_digit c || (c == 45)) (are_digits (d ∷ cs)) h).1

    by : (b : Bool) → is_ascii_digit c ≡ b → IsNumeral 10 (without_leading_sign (c ∷ d ∷ cs))
    by true e = subst (IsNumeral 10) (sym (no_sign c (d ∷ cs) e)) (omega arith, (digit_below c e, all_digits (d ∷ cs) rest))
    by false e =
        let minus : (c == 45) ≡ true = ap (λ b. b || (c == 45)) (sym e) ∙ (both (is_ascii_digit c || (c == 45)) (are_digits (d ∷ cs)) h).0 in
        subst (IsNumeral 10) (sym (ap (λ b. cond b (d ∷ cs) (drop (cond (c == 43) 1 0) (c ∷ d ∷ cs))) minus)) (omega arith, all_digits (d ∷ cs) rest)

in_range_fits : (z : ℤ) → is_in_range z ≡ true → FitsSigned w128 z
in_range_fits (pos n) h = record { sfits = omega (arith, ltb-true n (2 ^ 64) h) }
in_range_fits (negsuc n) h = record { sfits = omega (arith, ltb-true n (2 ^ 64) h) }

-- a number that does not fit is out of range
pub no_fit : (s : List ℕ) → is_whole s ≡ true → (IsNumeral 10 (without_leading_sign s) × FitsSigned w128 (signed_digits_value 10 s) → ⊥) → number_data s ≡ Err OutOfRange
no_fit s whole none =
    let z = signed_digits_value 10 s in
    let out : is_in_range z ≡ false = false_from_ne_true (is_in_range z) (λ h. none (whole_numeral s whole, in_range_fits z h)) in
    ap (λ b. cond b (cond (is_in_range z) (Ok (integer z)) (Err OutOfRange)) (Err Float)) whole
    ∙ ap (λ b. cond b (Ok (integer z)) (Err OutOfRange)) out
