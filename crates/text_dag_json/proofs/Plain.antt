-- Texts that need no escape: those of CIDs, and base64.
use Rattle.std.proofs.Common.{◌≡◌, ◌⊎◌, inl, inr, ℕ, zero, suc, ◌+◌, ◌*◌, ◌/◌, ◌%◌, ◌<◌, ◌≤◌, List, [], ◌∷◌, ◌++◌, Bool, true, false, cond, ◌&&◌, ◌==◌, map, length, refl, sym, ap, ◌∙◌, subst, arith, IsUtf8, slice_index, nat_lt, not, flat_map, le-ltb, ltb-true, eqb-true, ne_eqb}
use Rattle.std.specs.List.{AllByRecursion}
use Rattle.std.specs.Int.Digits.{AllBelowBase, digits_of, number_from_digits}
use Rattle.std.proofs.lemmas.Bool.{and_parts, eqb-false, cases_lt}
use Rattle.std.proofs.lemmas.Int.Digits.{all_below_base_digits_of}
use Rattle.json.specs.Print.{escape_byte, escape, quoted}
use Rattle.json.proofs.Printed.Strings.{escape_byte_plain}
use Rattle.json.proofs.Printed.Utf8.{are_ascii, IsUtf8-are_ascii}
use Rattle.base64.specs.Rfc4648.{encode_symbols}
use Rattle.base64.specs.GeneralPurpose.{encode_of, engine_symbols}
use Rattle.base64.specs.Engines.{standard_no_pad}
use Rattle.text_cid.specs.Rfc4648.{groups, group_count, message_bits, text_in_groups}
use Rattle.text_cid.specs.Base58.{symbols_58, text_in_58}
use Rattle.text_cid.specs.Alphabets.{all_below, AreBytes}
use Rattle.text_cid.specs.Texts.{lower_32, text_of_form}
use Rattle.text_cid.proofs.Grouping.{grouping_of}
use Rattle.text_dag_json.specs.DagJson.{escaped, json_text}

-- ---- escapes

abbrev same_bytes : List ℕ → List ℕ → Bool
same_bytes [] [] = true
same_bytes [] (y ∷ ys) = false
same_bytes (x ∷ xs) [] = false
same_bytes (x ∷ xs) (y ∷ ys) = (x == y) && same_bytes xs ys

same_if : (xs ys : List ℕ) → same_bytes xs ys ≡ true → xs ≡ ys
same_if [] [] h = refl
same_if [] (y ∷ ys) h = absurd cc
same_if (x ∷ xs) [] h = absurd cc
same_if (x ∷ xs) (y ∷ ys) h = let k = and_parts (x == y) (same_bytes xs ys) h in λ i. eqb-true x y k.0 i ∷ same_if xs ys k.1 i

at_each : (p : ℕ → Bool) (n i : ℕ) → all_below p n ≡ true → i < n → p i ≡ true
at_each p zero i h lt = absurd (omega arith)
at_each p (suc n) i h lt = let k = and_parts (p n) (all_below p n) h in by k.0 (at_each p n i k.1) (cases_lt i n)
  where
    by : p n ≡ true → (i < n → p i ≡ true) → (i < n) ⊎ (n ≤ i) → p i ≡ true
    by here below (inl less) = below less
    by here below (inr more) = let is : n ≡ i = omega arith in subst (λ j. p j ≡ true) is here

low_escapes : all_below (λ b. same_bytes (escaped b) (escape_byte b)) 93 ≡ true
unfolding escape_byte
low_escapes = refl

high_escaped : (b : ℕ) → 93 ≤ b → escaped b ≡ b ∷ []
high_escaped b h =
    rw (
      ne_eqb b 34 (λ e. omega arith),
      ne_eqb b 92 (λ e. omega arith),
      ne_eqb b 8 (λ e. omega arith),
      ne_eqb b 9 (λ e. omega arith),
      ne_eqb b 10 (λ e. omega arith),
      ne_eqb b 12 (λ e. omega arith),
      ne_eqb b 13 (λ e. omega arith),
      le-ltb b 32 (omega arith),
    ) refl

same_escape : (b : ℕ) → escaped b ≡ escape_byte b
same_escape b = by (cases_lt b 93)
  where
    by : (b < 93) ⊎ (93 ≤ b) → escaped b ≡ escape_byte b
    by (inl low) = same_if (escaped b) (escape_byte b) (at_each (λ x. same_bytes (escaped x) (escape_byte x)) 93 b low_escapes low)
    by (inr high) = high_escaped b high ∙ sym (escape_byte_plain b (λ e. omega arith) (λ e. omega arith) (omega arith))

same_escapes : (s : List ℕ) → flat_map escaped s ≡ escape s
same_escapes [] = refl
same_escapes (b ∷ s) = λ i. same_escape b i ++ same_escapes s i

pub same_text : (s : List ℕ) → json_text s ≡ quoted s
same_text s = ap (λ x. 34 ∷ (x ++ 34 ∷ [])) (same_escapes s)

-- ---- plain texts

abbrev pub is_plain : ℕ → Bool
is_plain b = nat_lt 31 b && (nat_lt b 128 && (not (b == 34) && not (b == 92)))

abbrev pub IsPlain : List ℕ → Type 0
IsPlain = AllByRecursion (λ b. is_plain b ≡ true)

not_true : (b : Bool) → not b ≡ true → b ≡ false
not_true true h = absurd cc
not_true false h = refl

plain_byte : (b : ℕ) → is_plain b ≡ true → escape_byte b ≡ b ∷ []
plain_byte b h =
    let k = and_parts (nat_lt 31 b) _ h in
    let l = and_parts (nat_lt b 128) _ k.1 in
    let m = and_parts (not (b == 34)) (not (b == 92)) l.1 in
    escape_byte_plain b (eqb-false b 34 (not_true _ m.0)) (eqb-false b 92 (not_true _ m.1)) (omega (arith, ltb-true 31 b k.0))

plain_escape : (s : List ℕ) → IsPlain s → escape s ≡ s
plain_escape [] h = refl
plain_escape (b ∷ s) h = λ i. plain_byte b h.0 i ++ plain_escape s h.1 i

pub plain_quoted : (s : List ℕ) → IsPlain s → quoted s ≡ 34 ∷ (s ++ 34 ∷ [])
plain_quoted s h = ap (λ x. 34 ∷ (x ++ 34 ∷ [])) (plain_escape s h)

plain_ascii : (s : List ℕ) → IsPlain s → are_ascii s ≡ true
plain_ascii [] h = refl
plain_ascii (b ∷ s) h =
    let k = and_parts (nat_lt 31 b) _ h.0 in
    let l = and_parts (nat_lt b 128) _ k.1 in
    ap (λ x. x && are_ascii s) l.0 ∙ plain_ascii s h.1

pub plain_utf8 : (s : List ℕ) → IsPlain s → IsUtf8 s
plain_utf8 s h = IsUtf8-are_ascii s (plain_ascii s h)

abbrev symbols_plain : List ℕ → ℕ → Bool
symbols_plain symbols n = all_below (λ v. is_plain (slice_index symbols v)) n

plain_symbols : (symbols : List ℕ) (n : ℕ) (vs : List ℕ) → symbols_plain symbols n ≡ true → AllBelowBase n vs → IsPlain (map (slice_index symbols) vs)
plain_symbols symbols n [] all h = tt
plain_symbols symbols n (v ∷ vs) all h = (at_each (λ x. is_plain (slice_index symbols x)) n v all h.0, plain_symbols symbols n vs all h.1)

-- ---- CIDs

plain_32 : symbols_plain lower_32 32 ≡ true
plain_32 = refl

plain_58 : symbols_plain symbols_58 58 ≡ true
plain_58 = refl

pub plain_cid : (form : List ℕ) → IsPlain (text_of_form form)
unfolding text_of_form text_in_groups text_in_58
plain_cid form = by (slice_index form 0 == 0x12)
  where
    by : (b : Bool) → IsPlain (cond b (text_in_58 form) (98 ∷ text_in_groups 5 lower_32 form))
    by true = plain_symbols symbols_58 58 (digits_of 58 (number_from_digits 256 form)) plain_58 (all_below_base_digits_of 58 (number_from_digits 256 form) (omega arith))
    by false = (refl, plain_symbols lower_32 32 (groups 5 (group_count 5 (length form)) (message_bits 5 form)) plain_32 (grouping_of 5 form (omega arith)).below)

-- ---- base64

plain_64 : symbols_plain (engine_symbols standard_no_pad) 64 ≡ true
plain_64 = refl

at_64 : (v : ℕ) → v < 64 → is_plain (slice_index (engine_symbols standard_no_pad) v) ≡ true
at_64 v h = at_each (λ x. is_plain (slice_index (engine_symbols standard_no_pad) x)) 64 v plain_64 h

plain_encoded : (b : List ℕ) → AreBytes b → IsPlain (encode_symbols (engine_symbols standard_no_pad) b)
unfolding encode_symbols
plain_encoded [] h = tt
plain_encoded (x ∷ []) h = (at_64 (x / 4) (omega (arith, h.0)), (at_64 (x % 4 * 16) (omega (arith, h.0)), tt))
plain_encoded (x ∷ y ∷ []) h = (at_64 (x / 4) (omega (arith, h.0)), (at_64 (x % 4 * 16 + y / 16) (omega (arith, h.0, h.1.0)), (at_64 (y % 16 * 4) (omega (arith, h.1.0)), tt)))
plain_encoded (x ∷ y ∷ z ∷ b) h =
    (at_64 (x / 4) (omega (arith, h.0)), (at_64 (x % 4 * 16 + y / 16) (omega (arith, h.0, h.1.0)), (at_64 (y % 16 * 4 + z / 64) (omega (arith, h.1.0, h.1.1.0)), (at_64 (z % 64) (omega arith), plain_encoded b h.1.1.1))))

plain_nothing : (s : List ℕ) → IsPlain s → IsPlain (s ++ [])
plain_nothing [] h = tt
plain_nothing (b ∷ s) h = (h.0, plain_nothing s h.1)

pub plain_base64 : (b : List ℕ) → AreBytes b → IsPlain (encode_of standard_no_pad b)
plain_base64 b h = plain_nothing (encode_symbols (engine_symbols standard_no_pad) b) (plain_encoded b h)
