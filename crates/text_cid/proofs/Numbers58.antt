-- Numbers in two bases.
use Rattle.std.proofs.Common.{◌≡◌, ◌≢◌, ℕ, zero, suc, ◌+◌, ◌-◌, ◌*◌, ◌/◌, ◌%◌, ◌<◌, ◌≤◌, List, [], ◌∷◌, ◌++◌, length, take, drop, reverse, map, get_or, refl, sym, ap, ◌∙◌, subst, arith, append_assoc, append-nil, length-append, add-one, slice_index, IsTrue, Contains, take_all, drop-cons, div-add-mod'}
use Rattle.std.proofs.lemmas.List.{reverse-append, reverse-reverse, length-reverse, drop_all, get_or-reverse, take_more, map-append}
use Rattle.std.proofs.lemmas.Nat.{div_below, le-div, mod_below, div-mul-add, mod-mul-add, mul-add-lt, mul-le}
use Rattle.std.proofs.lemmas.Int.Digits.{digits_of_step, first_digits_of, all_below_base_digits_of, number_digits_of, number_push, same_from_digits_of}
use Rattle.std.specs.Int.Digits.{AllBelowBase, digits_of, number_from_digits, number_from_digits_after}
use Rattle.text_cid.specs.Base58.{symbols_58, text_in_58, BeginsAboveZero, AreDigits, CanTimesPlus}
use Rattle.text_cid.specs.Alphabets.{IsNoSymbol, AreBytes, is_alphabet}
use Rattle.text_cid.specs.Reads.{HasOtherCharacter, Is58Fault, Writes58}
use Rattle.text_cid.specs.declared.error.CidTextError.{CidTextError}
use Rattle.text_cid.specs.declared.error.CidTextError.TheVariants.{InvalidCharacter}
use Rattle.text_cid.proofs.Bits.{all_push}
use Rattle.text_cid.proofs.Alphabet.{same_from_symbols, same_place, no_other_symbol}

-- ---- digits, the lowest first

pub lowest_first : (b n : ℕ) → 2 ≤ b → 0 < n → reverse (digits_of b n) ≡ n % b ∷ reverse (digits_of b (n / b))
lowest_first b n two some = ap reverse (digits_of_step b n two some) ∙ reverse-append (digits_of b (n / b)) (n % b ∷ [])

pub zero_from_no_digits : (b n : ℕ) → 2 ≤ b → reverse (digits_of b n) ≡ [] → n ≡ 0
zero_from_no_digits b n two e = sym (number_digits_of b n two) ∙ ap (number_from_digits b) (sym (reverse-reverse (digits_of b n)) ∙ ap reverse e)

pub number_split : (b n : ℕ) (d : ℕ) (ds : List ℕ) → 2 ≤ b → d ∷ ds ≡ reverse (digits_of b n) → (0 < n) × (d ≡ n % b) × (ds ≡ reverse (digits_of b (n / b)))
number_split b zero d ds two e = absurd (cc e)
number_split b (suc n) d ds two e = let f = e ∙ lowest_first b (suc n) two (omega arith) in (omega arith, cc f, cc f)

-- ---- one digit of a product

-- `times` times a number plus what is carried: its lowest digit, and the others
pub product_parts : (b times m carry x : ℕ) → 2 ≤ b → x ≡ m % b * times + carry → ((m * times + carry) % b ≡ x % b) × ((m * times + carry) / b ≡ m / b * times + x / b)
product_parts b times m carry x two is =
    let low = mod_below x b (omega arith) in
    let whole : m * times ≡ (m / b * b + m % b) * times = ap (λ k. k * times) (sym (div-add-mod' m b)) in
    let split : x / b * b + x % b ≡ x = div-add-mod' x b in
    let sum : m * times + carry ≡ (m / b * times + x / b) * b + x % b = omega arith in
    (ap (λ k. k % b) sum ∙ mod-mul-add (m / b * times + x / b) b (x % b) low, ap (λ k. k / b) sum ∙ div-mul-add (m / b * times + x / b) b (x % b) low)

pub carry_below : (b times d carry x : ℕ) → 0 < b → d < b → carry < times → x ≡ d * times + carry → x / b < times
carry_below b times d carry x some h l is = div_below x b times some (omega (arith, mul-add-lt d times carry b h l))

-- the digits that are out, and those of what is left
pub record IsMultiplied (b times total : ℕ) (out left : List ℕ) (carry : ℕ) : Type 0 where
  pub rest : ℕ
  pub digits : left ≡ reverse (digits_of b rest)
  pub is : out ++ reverse (digits_of b (rest * times + carry)) ≡ reverse (digits_of b total)

pub digit_out : {b times total : ℕ} {out : List ℕ} {carry : ℕ} (left : List ℕ) (d x : ℕ) (ds : List ℕ) → IsMultiplied b times total out left carry → left ≡ d ∷ ds → 2 ≤ b → 0 < times → x ≡ d * times + carry → IsMultiplied b times total (out ++ x % b ∷ []) ds (x / b)
digit_out {b} {times} {total} {out} {carry} left d x ds g e two some is =
    let parts = number_split b g.rest d ds two (sym e ∙ g.digits) in
    let product = product_parts b times g.rest carry x two (is ∙ ap (λ k. k * times + carry) parts.1) in
    let positive : 0 < g.rest * times + carry = omega (arith, mul-add-lt 0 times 0 g.rest parts.0 some) in
    record {
      rest = g.rest / b;
      digits = parts.2;
      is =
          append_assoc out (x % b ∷ []) (reverse (digits_of b (g.rest / b * times + x / b)))
          ∙ ap (λ y. out ++ y) ((λ i. sym product.0 i ∷ reverse (digits_of b (sym product.1 i))) ∙ sym (lowest_first b (g.rest * times + carry) two positive))
          ∙ g.is;
    }

-- no digit is left but those of the carry
carry_left : {b times total : ℕ} {out : List ℕ} {carry : ℕ} → IsMultiplied b times total out [] carry → 2 ≤ b → out ++ reverse (digits_of b carry) ≡ reverse (digits_of b total)
carry_left {b} {times} {total} {out} {carry} g two =
    let none : g.rest ≡ 0 = zero_from_no_digits b g.rest two (sym g.digits) in
    let whole : g.rest * times + carry ≡ carry = ap (λ k. k * times + carry) none ∙ omega arith in
    ap (λ k. out ++ reverse (digits_of b k)) (sym whole) ∙ g.is

pub no_carry : {b times total : ℕ} {out : List ℕ} {carry : ℕ} → IsMultiplied b times total out [] carry → 2 ≤ b → carry ≡ 0 → out ≡ reverse (digits_of b total)
no_carry {b} {times} {total} {out} {carry} g two none = sym (append-nil out) ∙ ap (λ k. out ++ reverse (digits_of b k)) (sym none) ∙ carry_left g two

small_digits : (b n : ℕ) → 2 ≤ b → 0 < n → n < b → reverse (digits_of b n) ≡ n ∷ []
small_digits b n two some small =
    let low : n % b ≡ n = ap (λ k. k % b) (omega arith) ∙ mod-mul-add 0 b n small in
    let high : n / b ≡ 0 = ap (λ k. k / b) (omega arith) ∙ div-mul-add 0 b n small in
    lowest_first b n two some ∙ (λ i. low i ∷ reverse (digits_of b (high i)))

pub one_carry : {b times total : ℕ} {out : List ℕ} {carry : ℕ} → IsMultiplied b times total out [] carry → 2 ≤ b → 0 < carry → carry < b → out ++ carry % b ∷ [] ≡ reverse (digits_of b total)
one_carry {b} {times} {total} {out} {carry} g two some small =
    let low : carry % b ≡ carry = ap (λ k. k % b) (omega arith) ∙ mod-mul-add 0 b carry small in
    ap (λ x. out ++ x ∷ []) low ∙ ap (λ y. out ++ y) (sym (small_digits b carry two some small)) ∙ carry_left g two

pub two_carries : {b times total : ℕ} {out : List ℕ} {carry : ℕ} → IsMultiplied b times total out [] carry → 16 ≤ b → b ≤ carry → carry < 256 → (out ++ carry % b ∷ []) ++ (carry / b) ∷ [] ≡ reverse (digits_of b total)
two_carries {b} {times} {total} {out} {carry} g much more few =
    let whole = div-add-mod' carry b in
    let low = mod_below carry b (omega arith) in
    let positive : 0 < carry / b = le-div 1 carry b (omega arith) (omega arith) in
    let small : carry / b < b = omega (arith, div_below carry b 16 (omega arith) (omega arith)) in
    append_assoc out (carry % b ∷ []) ((carry / b) ∷ [])
    ∙ ap (λ y. out ++ carry % b ∷ y) (sym (small_digits b (carry / b) (omega arith) positive small))
    ∙ ap (λ y. out ++ y) (sym (lowest_first b carry (omega arith) (omega arith)))
    ∙ carry_left g (omega arith)

-- ---- digits of a number that digits write

digits_after : (b n : ℕ) (ds : List ℕ) → 2 ≤ b → 0 < n → AllBelowBase b ds → digits_of b (number_from_digits_after b n ds) ≡ digits_of b n ++ ds
digits_after b n [] two some h = sym (append-nil (digits_of b n))
digits_after b n (d ∷ ds) two some h =
    let positive : 0 < n * b + d = omega (arith, mul-add-lt 0 b 0 n some (omega arith)) in
    digits_after b (n * b + d) ds two positive h.1
    ∙ ap (λ x. x ++ ds) (digits_of_step b (n * b + d) two positive ∙ (λ i. digits_of b (div-mul-add n b d h.0 i) ++ mod-mul-add n b d h.0 i ∷ []))
    ∙ append_assoc (digits_of b n) (d ∷ []) ds

pub digits_of_number : (b : ℕ) (ds : List ℕ) → 2 ≤ b → AllBelowBase b ds → BeginsAboveZero ds → digits_of b (number_from_digits b ds) ≡ ds
digits_of_number b [] two h k = refl
digits_of_number b (d ∷ ds) two h k =
    let alone : digits_of b d ≡ d ∷ [] = sym (reverse-reverse (digits_of b d)) ∙ ap reverse (small_digits b d two k h.0) in
    ap (λ n. digits_of b (number_from_digits_after b n ds)) (omega arith) ∙ digits_after b d ds two k h.1 ∙ ap (λ x. x ++ ds) alone

pub first_above_zero : (b n : ℕ) → 2 ≤ b → BeginsAboveZero (digits_of b n)
first_above_zero b zero two = tt
first_above_zero b (suc n) two = by (digits_of b (suc n)) (first_digits_of b (suc n) two (omega arith))
  where
    by : (ds : List ℕ) → 0 < get_or ds 0 0 → BeginsAboveZero ds
    by [] h = tt
    by (d ∷ ds) h = h

-- ---- base58btc

alphabet_58 : IsTrue (is_alphabet 58 symbols_58)
alphabet_58 = refl

-- what was read of a text of these numbers is the bytes whose text it is
pub bytes_read : (values : List ℕ) (n : ℕ) → AllBelowBase 58 values → BeginsAboveZero values → n ≡ number_from_digits 58 values → map (slice_index symbols_58) values ≡ text_in_58 (digits_of 256 n)
unfolding text_in_58
bytes_read values n below first is = ap (map (slice_index symbols_58)) (sym (digits_of_number 58 values (omega arith) below first) ∙ ap (digits_of 58) (sym is ∙ sym (number_digits_of 256 n (omega arith))))

-- a text whose first symbol is not that of zero
pub first_value : (values rest : List ℕ) (text : List ℕ) → AllBelowBase 58 values → text ≡ map (slice_index symbols_58) values → ((rest : List ℕ) → text ≢ 49 ∷ rest) → BeginsAboveZero values
first_value [] rest text below is other = tt
first_value (zero ∷ values) rest text below is other = absurd (other (map (slice_index symbols_58) values) is)
first_value (suc v ∷ values) rest text below is other = omega arith

pub no_other_in_58 : (bytes text : List ℕ) (x : ℕ) → Contains text x → IsNoSymbol symbols_58 x → text ≡ text_in_58 bytes → ⊥
unfolding text_in_58
no_other_in_58 bytes text x c n e = no_other_symbol symbols_58 _ x (all_below_base_digits_of 58 (number_from_digits 256 bytes) (omega arith)) (subst (λ t. Contains t x) e c) n

pub no_leading_zero : (bytes rest : List ℕ) → 49 ∷ rest ≡ text_in_58 bytes → ⊥
unfolding text_in_58
no_leading_zero bytes rest e = by (digits_of 58 (number_from_digits 256 bytes)) (all_below_base_digits_of 58 (number_from_digits 256 bytes) (omega arith)) (first_above_zero 58 (number_from_digits 256 bytes) (omega arith)) e
  where
    by : (ds : List ℕ) → AllBelowBase 58 ds → BeginsAboveZero ds → 49 ∷ rest ≡ map (slice_index symbols_58) ds → ⊥
    by [] below first e = cc e
    by (d ∷ ds) below first e =
        let symbol : 49 ≡ slice_index symbols_58 d = cc e in
        let same = same_place symbols_58 58 0 d alphabet_58 (omega arith) below.0 symbol in
        omega arith

-- bytes of one text are the same
pub same_bytes_from_58 : (a b : List ℕ) → AreBytes a → AreBytes b → BeginsAboveZero a → BeginsAboveZero b → text_in_58 a ≡ text_in_58 b → a ≡ b
unfolding text_in_58
same_bytes_from_58 a b ha hb fa fb e =
    let digits = same_from_symbols symbols_58 58 _ _ alphabet_58 (all_below_base_digits_of 58 (number_from_digits 256 a) (omega arith)) (all_below_base_digits_of 58 (number_from_digits 256 b) (omega arith)) e in
    let number = same_from_digits_of 58 (number_from_digits 256 a) (number_from_digits 256 b) (omega arith) digits in
    sym (digits_of_number 256 a (omega arith) ha fa) ∙ ap (digits_of 256) number ∙ digits_of_number 256 b (omega arith) hb fb

-- ---- how far a number is multiplied

-- the first digits are multiplied
pub record IsMultiplying (b times plus : ℕ) (digits out : List ℕ) (carry i : ℕ) : Type 0 where
  pub less : carry < times
  pub below : AllBelowBase b out
  pub long : length out ≡ i
  pub so_far : (n : ℕ) → AreDigits b n digits → IsMultiplied b times (n * times + plus) out (drop i digits) carry

at_below : (b i : ℕ) (ds : List ℕ) → AllBelowBase b ds → i < length ds → get_or ds i 0 < b
at_below b i [] h l = absurd (omega (arith, l))
at_below b zero (d ∷ ds) h l = h.0
at_below b (suc i) (d ∷ ds) h l = at_below b i ds h.1 (omega (arith, l))

pub product_below : (b times plus : ℕ) (digits out : List ℕ) (carry i d : ℕ) → CanTimesPlus b times plus digits → IsMultiplying b times plus digits out carry i → i < length digits → d ≡ get_or digits i 0 → (d < b) × (d * times + carry < b * times) × (b * times ≤ 65536)
product_below b times plus digits out carry i d can g here is =
    let low : d < b = omega (arith, at_below b i digits can.digits_below here) in
    let most = can.most in
    let few = can.few in
    let less = g.less in
    let product = mul-add-lt d times carry b low less in
    let bound = mul-le b times 256 256 most few in
    (low, omega arith, omega arith)

pub one_multiplied : (b times plus : ℕ) (digits out : List ℕ) (carry i d x : ℕ) → CanTimesPlus b times plus digits → IsMultiplying b times plus digits out carry i → i < length digits → d ≡ get_or digits i 0 → x ≡ carry + d * times → IsMultiplying b times plus digits (out ++ x % b ∷ []) (x / b) (i + 1)
one_multiplied b times plus digits out carry i d x can g here is ex =
    let bounds = product_below b times plus digits out carry i d can g here is in
    let much = can.much in
    let less = g.less in
    let sum : x ≡ d * times + carry = omega arith in
    let left : drop i digits ≡ d ∷ drop (i + 1) digits = drop-cons digits i 0 here ∙ (λ j. sym is j ∷ drop (sym (add-one i) j) digits) in
    record {
      less = carry_below b times d carry x (omega arith) bounds.0 less sum;
      below = all_push (λ y. y < b) out (x % b) g.below (mod_below x b (omega arith));
      long = omega (arith, length-append out (x % b ∷ []), g.long);
      so_far = λ n are. digit_out (drop i digits) d x (drop (i + 1) digits) (g.so_far n are) left (omega arith) (omega arith) sum;
    }

-- all digits are multiplied
pub all_multiplied : (b times plus : ℕ) (digits out : List ℕ) (carry i n : ℕ) → IsMultiplying b times plus digits out carry i → length digits ≤ i → AreDigits b n digits → IsMultiplied b times (n * times + plus) out [] carry
all_multiplied b times plus digits out carry i n g past are = subst (λ left. IsMultiplied b times (n * times + plus) out left carry) (drop_all i digits past) (g.so_far n are)

-- ---- a text in base58btc, symbol by symbol

pub symbol_taken : (start out ds : List ℕ) (i count : ℕ) → out ≡ start ++ map (slice_index symbols_58) (take i (reverse ds)) → i < count → count ≡ length ds → out ++ slice_index symbols_58 (slice_index ds (count - 1 - i)) ∷ [] ≡ start ++ map (slice_index symbols_58) (take (i + 1) (reverse ds))
symbol_taken start out ds i count e h long =
    let here : i < length (reverse ds) = omega (arith, length-reverse ds) in
    let place : get_or (reverse ds) i 0 ≡ get_or ds (count - 1 - i) 0 = get_or-reverse ds i 0 (omega arith) ∙ ap (λ n. get_or ds (n - 1 - i) 0) (sym long) in
    (λ j. e j ++ slice_index symbols_58 (sym place j) ∷ [])
    ∙ append_assoc start (map (slice_index symbols_58) (take i (reverse ds))) (slice_index symbols_58 (get_or (reverse ds) i 0) ∷ [])
    ∙ ap (λ x. start ++ x) (sym (map-append (slice_index symbols_58) (take i (reverse ds)) (get_or (reverse ds) i 0 ∷ [])) ∙ ap (map (slice_index symbols_58)) (sym (take_more (reverse ds) i 0 here)))

pub all_taken : (start out ds bytes : List ℕ) (i count : ℕ) → out ≡ start ++ map (slice_index symbols_58) (take i (reverse ds)) → count ≤ i → count ≡ length ds → AreDigits 58 (number_from_digits 256 bytes) ds → out ≡ start ++ text_in_58 bytes
unfolding text_in_58
all_taken start out ds bytes i count e past long are =
    e ∙ ap (λ x. start ++ map (slice_index symbols_58) x) (take_all i (reverse ds) (omega (arith, length-reverse ds)) ∙ ap reverse are.is ∙ reverse-reverse (digits_of 58 (number_from_digits 256 bytes)))

pub one_written : (text : List ℕ) (i : ℕ) (values : List ℕ) (n v : ℕ) → Writes58 (take i text) values n → i < length text → v < 58 → slice_index symbols_58 v ≡ get_or text i 0 → Writes58 (take (i + 1) text) (values ++ v ∷ []) (n * 58 + v)
one_written text i values n v w here small symbol = record {
  below = all_push (λ u. u < 58) values v w.below small;
  is = take_more text i 0 here ∙ (λ j. w.is j ++ sym symbol j ∷ []) ∙ sym (map-append (slice_index symbols_58) values (v ∷ []));
  number = ap (λ m. m * 58 + v) w.number ∙ sym (number_push 58 values v);
}

pub read_whole : (text digits bytes values : List ℕ) (n : ℕ) → Writes58 text values n → AreDigits 256 n digits → ((rest : List ℕ) → text ≢ 49 ∷ rest) → bytes ≡ reverse digits → AreBytes bytes × BeginsAboveZero bytes × (text ≡ text_in_58 bytes)
read_whole text digits bytes values n w are other is =
    let same : bytes ≡ digits_of 256 n = is ∙ ap reverse are.is ∙ reverse-reverse (digits_of 256 n) in (
      subst AreBytes (sym same) (all_below_base_digits_of 256 n (omega arith)),
      subst BeginsAboveZero (sym same) (first_above_zero 256 n (omega arith)),
      w.is ∙ bytes_read values n w.below (first_value values [] text w.below w.is other) w.number ∙ ap text_in_58 (sym same),
    )

pub not_read : (text : List ℕ) (e : CidTextError) → e ≡ InvalidCharacter → HasOtherCharacter symbols_58 text → ((rest : List ℕ) → text ≢ 49 ∷ rest) → ((b : List ℕ) → text ≢ text_in_58 b) × Is58Fault e text
not_read text e is other no_zero = (λ b k. no_other_in_58 b text other.0 other.1 other.2 k, subst (λ f. Is58Fault f text) (sym is) (other, λ h. no_zero h.0 h.1))

pub zero_first : (text : List ℕ) → (rest : List ℕ) × (text ≡ 49 ∷ rest) → ((b : List ℕ) → text ≢ text_in_58 b) × ((rest : List ℕ) × (text ≡ 49 ∷ rest))
zero_first text h = (λ b k. no_leading_zero b h.0 (sym h.1 ∙ k), h)
