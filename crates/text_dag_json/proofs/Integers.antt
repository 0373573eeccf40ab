-- Integers, as they are written and read.
use Rattle.std.proofs.Common.{◌≡◌, ◌⊎◌, inl, inr, ℕ, ℤ, pos, negsuc, suc, ◌+◌, ◌/◌, ◌^◌, ◌<◌, ◌≤◌, List, [], ◌∷◌, ◌++◌, true, cond, ◌||◌, ◌==◌, length, get_or, refl, sym, ap, ◌∙◌, subst, arith, IsUtf8, decimal, Ok, Err, Some, option_and_then, not, neg_ℤ, le-leb, lt-ltb, ne_eqb}
use Rattle.std.specs.List.{prefix_len}
use Rattle.std.proofs.lemmas.List.{drop_all}
use Rattle.std.specs.Char.{is_ascii_digit, digit_value}
use Rattle.std.specs.Fmt.{signed_decimal}
use Rattle.std.specs.Str.Parse.{AllDigits, IsNumeral, digits_value, signed_digits_value, without_leading_sign}
use Rattle.std.proofs.lemmas.Bool.{and_from, cases_lt}
use Rattle.std.proofs.lemmas.Str.Parse.{digit_from_value}
use Rattle.std.proofs.lemmas.Fmt.{decimal_is_IsNumeral_wide, decimal_step_wide, first_decimal}
use Rattle.json.specs.Print.{IsNumber}
use Rattle.json.specs.Word.{after_whole, after_fraction, after_exponent, after_number}
use Rattle.json.proofs.Printed.Decimals.{IsNumber-decimal}
use Rattle.ipld_tree.specs.Spelling.{IsInRange}
use Rattle.ipld_tree.specs.Tree.{integer}
use Rattle.text_dag_json.specs.Reading.{are_digits, is_whole, is_in_range, number_data}
use Rattle.text_dag_json.specs.declared.error.DagJsonError.TheVariants.{Float, OutOfRange}
use Rattle.text_dag_json.proofs.Numbers.{no_sign}
use Rattle.text_dag_json.proofs.Plain.{IsPlain, is_plain, plain_utf8}

-- ---- integers

digit_of : (c : ℕ) → digit_value c < 10 → is_ascii_digit c ≡ true
digit_of c h = let k = digit_from_value c h in and_from _ _ (le-leb 48 c k.0) (le-leb c 57 k.1)

digits_of_numeral : (cs : List ℕ) → AllDigits 10 cs → are_digits cs ≡ true
digits_of_numeral [] h = refl
digits_of_numeral (c ∷ cs) h = and_from _ _ (digit_of c h.0) (digits_of_numeral cs h.1)

whole_numeral : (ds : List ℕ) → IsNumeral 10 ds → is_whole ds ≡ true
whole_numeral [] h = absurd (omega (arith, h.0))
whole_numeral (c ∷ []) h = digit_of c h.1.0
whole_numeral (c ∷ d ∷ cs) h = and_from _ _ (ap (λ b. b || (c == 45)) (digit_of c h.1.0)) (digits_of_numeral (d ∷ cs) h.1.1)

whole_negative : (ds : List ℕ) → IsNumeral 10 ds → is_whole (45 ∷ ds) ≡ true
whole_negative [] h = absurd (omega (arith, h.0))
whole_negative (d ∷ ds) h = digits_of_numeral (d ∷ ds) h.1

numeral_value : (ds : List ℕ) → IsNumeral 10 ds → signed_digits_value 10 ds ≡ pos (digits_value 10 ds)
numeral_value [] h = absurd (omega (arith, h.0))
numeral_value (c ∷ cs) h =
    let k = digit_from_value c h.1.0 in
    let n = pos (digits_value 10 (without_leading_sign (c ∷ cs))) in
    ap (λ b. cond b (neg_ℤ n) n) (ne_eqb c 45 (λ e. omega (arith, k.0)))
    ∙ ap (λ l. pos (digits_value 10 l)) (no_sign c cs (digit_of c h.1.0))

signed_value : (n : ℤ) → IsInRange n → signed_digits_value 10 (signed_decimal n) ≡ n
signed_value (pos n) h = let k = decimal_is_IsNumeral_wide n (omega (arith, h)) in numeral_value (decimal n) k.0 ∙ ap pos k.1
signed_value (negsuc n) h = let k = decimal_is_IsNumeral_wide (suc n) (omega (arith, h)) in ap (λ m. neg_ℤ (pos m)) k.1

signed_whole : (n : ℤ) → IsInRange n → is_whole (signed_decimal n) ≡ true
signed_whole (pos n) h = whole_numeral (decimal n) (decimal_is_IsNumeral_wide n (omega (arith, h))).0
signed_whole (negsuc n) h = whole_negative (decimal (suc n)) (decimal_is_IsNumeral_wide (suc n) (omega (arith, h))).0

in_range : (n : ℤ) → IsInRange n → is_in_range n ≡ true
in_range (pos n) h = lt-ltb n (2 ^ 64) h
in_range (negsuc n) h = lt-ltb n (2 ^ 64) h

pub number_read : (n : ℤ) → IsInRange n → number_data (signed_decimal n) ≡ Ok (integer n)
number_read n h =
    ap (λ b. cond b (cond (is_in_range (signed_digits_value 10 (signed_decimal n))) (Ok (integer (signed_digits_value 10 (signed_decimal n)))) (Err OutOfRange)) (Err Float)) (signed_whole n h)
    ∙ ap (λ m. cond (is_in_range m) (Ok (integer m)) (Err OutOfRange)) (signed_value n h)
    ∙ ap (λ b. cond b (Ok (integer n)) (Err OutOfRange)) (in_range n h)

all_prefix : (ds : List ℕ) → AllDigits 10 ds → prefix_len is_ascii_digit ds ≡ length ds
all_prefix [] h = refl
all_prefix (d ∷ ds) h = ap (λ b. cond b (1 + prefix_len is_ascii_digit ds) 0) (digit_of d h.0) ∙ omega (arith, all_prefix ds h.1)

after_all : (ds : List ℕ) → 48 < get_or ds 0 0 → AllDigits 10 ds → after_whole ds ≡ Some []
after_all [] first h = absurd (omega (arith, first))
after_all (d ∷ ds) first h = rw (ne_eqb d 48 (λ e. omega (arith, first, e)), all_prefix (d ∷ ds) h, ne_eqb (suc (length ds)) 0 (λ e. omega arith)) (ap Some (drop_all (length (d ∷ ds)) (d ∷ ds) (omega arith)))

-- digits after a minus, the first of which is not 0
negative_number : (ds : List ℕ) → 48 < get_or ds 0 0 → AllDigits 10 ds → IsNumber (45 ∷ ds)
unfolding after_number
negative_number ds first h = ap (λ o. option_and_then after_exponent (option_and_then after_fraction o)) (after_all ds first h)

first_of_both : (xs ys : List ℕ) → 48 < get_or xs 0 0 → 48 < get_or (xs ++ ys) 0 0
first_of_both [] ys h = absurd (omega (arith, h))
first_of_both (x ∷ xs) ys h = h

first_digit : (n : ℕ) → 0 < n → n ≤ 2 ^ 64 → 48 < get_or (decimal n) 0 0
first_digit n some most = by (cases_lt n (2 ^ 64))
  where
    by : (n < 2 ^ 64) ⊎ (2 ^ 64 ≤ n) → 48 < get_or (decimal n) 0 0
    by (inl less) = first_decimal n some less
    by (inr is) = subst (λ (ds : List ℕ). 48 < get_or ds 0 0) (sym (decimal_step_wide n (omega (arith, is)) (omega (arith, most)))) (first_of_both (decimal (n / 10)) _ (first_decimal (n / 10) (omega (arith, is)) (omega (arith, most))))

pub number_written : (n : ℤ) → IsInRange n → IsNumber (signed_decimal n)
number_written (pos n) h = IsNumber-decimal n h
number_written (negsuc n) h = negative_number (decimal (suc n)) (first_digit (suc n) (omega arith) (omega (arith, h))) (decimal_is_IsNumeral_wide (suc n) (omega (arith, h))).0.1

plain_digit : (c : ℕ) → (48 ≤ c) × (c ≤ 57) → is_plain c ≡ true
plain_digit c k = and_from _ _ (lt-ltb 31 c (omega (arith, k.0))) (and_from _ _ (lt-ltb c 128 (omega (arith, k.1))) (and_from _ _ (ap not (ne_eqb c 34 (λ e. omega (arith, k.0)))) (ap not (ne_eqb c 92 (λ e. omega (arith, k.1))))))

plain_digits : (cs : List ℕ) → AllDigits 10 cs → IsPlain cs
plain_digits [] h = tt
plain_digits (c ∷ cs) h = (plain_digit c (digit_from_value c h.0), plain_digits cs h.1)

pub number_utf8 : (n : ℤ) → IsInRange n → IsUtf8 (signed_decimal n)
number_utf8 (pos n) h = plain_utf8 (decimal n) (plain_digits (decimal n) (decimal_is_IsNumeral_wide n (omega (arith, h))).0.1)
number_utf8 (negsuc n) h = plain_utf8 (45 ∷ decimal (suc n)) (refl, plain_digits (decimal (suc n)) (decimal_is_IsNumeral_wide (suc n) (omega (arith, h))).0.1)
