-- The text of a key is one word, and different keys have different texts.
use Rattle.std.proofs.Common.{◌≡◌, ℕ, zero, suc, ◌/◌, ◌%◌, ◌<◌, ◌≤◌, ◌==◌, nat_lt, List, [], ◌∷◌, ◌++◌, Bool, true, false, length, refl, sym, ap, ap₂, ◌∙◌, arith, slice_index, codes, if◌then◌else◌, ltb-true, inl, inr}
use Rattle.std.specs.Prelude.{⊤}
use Rattle.std.specs.List.{AllByRecursion}
use Rattle.std.proofs.lemmas.Bool.{ltb-false, or_parts}
use Rattle.program_records.specs.Keys.{upper_digit, is_spelled, key_byte, key_text}
use Rattle.program_records.specs.Laws.{KeysAreNamed, IsWord, KeysAreWords, KeyTextsDiffer}

-- ---- digits

at_index : (P : ℕ → Type 0) (xs : List ℕ) → AllByRecursion P xs → (n : ℕ) → n < length xs → P (slice_index xs n)
at_index P [] h n l = absurd (omega (arith, l))
at_index P (x ∷ xs) h zero l = h.0
at_index P (x ∷ xs) h (suc n) l = at_index P xs h.1 n (omega (arith, l))

-- each is less than those after it
abbrev Rising : List ℕ → Type 0
Rising [] = ⊤
Rising (x ∷ xs) = AllByRecursion (λ y. x < y) xs × Rising xs

index_rises : (xs : List ℕ) → Rising xs → (n m : ℕ) → n < m → m < length xs → slice_index xs n < slice_index xs m
index_rises [] r n m l k = absurd (omega (arith, k))
index_rises (x ∷ xs) r n zero l k = absurd (omega (arith, l))
index_rises (x ∷ xs) r zero (suc m) l k = at_index (λ y. x < y) xs r.0 m (omega (arith, k))
index_rises (x ∷ xs) r (suc n) (suc m) l k = index_rises xs r.1 n m (omega (arith, l)) (omega (arith, k))

digits_rise : Rising (codes "0123456789ABCDEF")
digits_rise = ((omega arith, (omega arith, (omega arith, (omega arith, (omega arith, (omega arith, (omega arith, (omega arith, (omega arith, (omega arith, (omega arith, (omega arith, (omega arith, (omega arith, (omega arith, tt))))))))))))))), ((omega arith, (omega arith, (omega arith, (omega arith, (omega arith, (omega arith, (omega arith, (omega arith, (omega arith, (omega arith, (omega arith, (omega arith, (omega arith, (omega arith, tt)))))))))))))), ((omega arith, (omega arith, (omega arith, (omega arith, (omega arith, (omega arith, (omega arith, (omega arith, (omega arith, (omega arith, (omega arith, (omega arith, (omega arith, tt))))))))))))), ((omega arith, (omega arith, (omega arith, (omega arith, (omega arith, (omega arith, (omega arith, (omega arith, (omega arith, (omega arith, (omega arith, (omega arith, tt)))))))))))), ((omega arith, (omega arith, (omega arith, (omega arith, (omega arith, (omega arith, (omega arith, (omega arith, (omega arith, (omega arith, (omega arith, tt))))))))))), ((omega arith, (omega arith, (omega arith, (omega arith, (omega arith, (omega arith, (omega arith, (omega arith, (omega arith, (omega arith, tt)))))))))), ((omega arith, (omega arith, (omega arith, (omega arith, (omega arith, (omega arith, (omega arith, (omega arith, (omega arith, tt))))))))), ((omega arith, (omega arith, (omega arith, (omega arith, (omega arith, (omega arith, (omega arith, (omega arith, tt)))))))), ((omega arith, (omega arith, (omega arith, (omega arith, (omega arith, (omega arith, (omega arith, tt))))))), ((omega arith, (omega arith, (omega arith, (omega arith, (omega arith, (omega arith, tt)))))), ((omega arith, (omega arith, (omega arith, (omega arith, (omega arith, tt))))), ((omega arith, (omega arith, (omega arith, (omega arith, tt)))), ((omega arith, (omega arith, (omega arith, tt))), ((omega arith, (omega arith, tt)), ((omega arith, tt), (tt, tt))))))))))))))))

digits_word : IsWord (codes "0123456789ABCDEF")
digits_word = ((omega arith, omega arith), ((omega arith, omega arith), ((omega arith, omega arith), ((omega arith, omega arith), ((omega arith, omega arith), ((omega arith, omega arith), ((omega arith, omega arith), ((omega arith, omega arith), ((omega arith, omega arith), ((omega arith, omega arith), ((omega arith, omega arith), ((omega arith, omega arith), ((omega arith, omega arith), ((omega arith, omega arith), ((omega arith, omega arith), ((omega arith, omega arith), tt))))))))))))))))

digit_word : (n : ℕ) → n < 16 → (0x21 ≤ upper_digit n) × (upper_digit n ≤ 0x7e)
digit_word n l = at_index (λ b. (0x21 ≤ b) × (b ≤ 0x7e)) (codes "0123456789ABCDEF") digits_word n l

pub same_digit : (n m : ℕ) → n < 16 → m < 16 → upper_digit n ≡ upper_digit m → n ≡ m
same_digit n m l k e = by (nat_lt n m) refl (nat_lt m n) refl
  where
    by : (s : Bool) → nat_lt n m ≡ s → (t : Bool) → nat_lt m n ≡ t → n ≡ m
    by true p t q = let r = index_rises (codes "0123456789ABCDEF") digits_rise n m (ltb-true n m p) k in absurd (omega (arith, e, r))
    by false p true q = let r = index_rises (codes "0123456789ABCDEF") digits_rise m n (ltb-true m n q) l in absurd (omega (arith, e, r))
    by false p false q = omega (arith, ltb-false n m p, ltb-false m n q)

-- ---- a word

joined : (a b : List ℕ) → IsWord a → IsWord b → IsWord (a ++ b)
joined [] b h k = k
joined (x ∷ a) b h k = (h.0, joined a b h.1 k)

-- a byte that is not escaped
pub plain : (b : ℕ) → is_spelled b ≡ false → (0x21 ≤ b) × ((b ≤ 0x7e) × ((b == 0x25) ≡ false))
plain b e =
    let k = or_parts _ _ e in
    let m = or_parts _ _ k.1 in
    (ltb-false b 0x21 k.0, (ltb-false 0x7e b m.0, m.1))

byte_word : (b : ℕ) → b < 256 → IsWord (key_byte b)
byte_word b l = by (is_spelled b) refl
  where
    by : (t : Bool) → is_spelled b ≡ t → IsWord (if t then 0x25 ∷ upper_digit (b / 16) ∷ upper_digit (b % 16) ∷ [] else b ∷ [])
    by true e = ((omega arith, omega arith), (digit_word (b / 16) (omega (arith, l)), (digit_word (b % 16) (omega (arith, l)), tt)))
    by false e = let p = plain b e in ((p.0, p.1.0), tt)

pub keys_are_words : KeysAreWords
keys_are_words [] h = tt
keys_are_words (b ∷ key) h = joined (key_byte b) (key_text key) (byte_word b h.0) (keys_are_words key h.1)

-- ---- of no other key

abbrev spelled : ℕ → List ℕ
spelled b = 0x25 ∷ upper_digit (b / 16) ∷ upper_digit (b % 16) ∷ []

pub not_nothing : (c : ℕ) (rest : List ℕ) → [] ≡ key_byte c ++ rest → ⊥
not_nothing c rest e = by (is_spelled c) e
  where
    by : (t : Bool) → [] ≡ (if t then spelled c else c ∷ []) ++ rest → ⊥
    by true e = cc e
    by false e = cc e

-- a byte that is not escaped is not the first byte of an escape
other_first : (c : ℕ) → is_spelled c ≡ false → 0x25 ≡ c → ⊥
other_first c e is = let no : (c == 0x25) ≡ false = (plain c e).1.1 in absurd (cc (ap (λ x. x == 0x25) is ∙ no))

same_byte : (b c : ℕ) → b < 256 → c < 256 → upper_digit (b / 16) ≡ upper_digit (c / 16) → upper_digit (b % 16) ≡ upper_digit (c % 16) → b ≡ c
same_byte b c l k e f =
    let high = same_digit (b / 16) (c / 16) (omega (arith, l)) (omega (arith, k)) e in
    let low = same_digit (b % 16) (c % 16) (omega (arith, l)) (omega (arith, k)) f in
    omega (arith, high, low)

pub keys_differ : KeyTextsDiffer
keys_differ [] [] h k e = refl
keys_differ [] (c ∷ other) h k e = absurd (not_nothing c (key_text other) e)
keys_differ (b ∷ key) [] h k e = absurd (not_nothing b (key_text key) (sym e))
keys_differ (b ∷ key) (c ∷ other) h k e = by (keys_differ key other h.1 k.1) (is_spelled b) refl (is_spelled c) refl e
  where
    by : (key_text key ≡ key_text other → key ≡ other) → (s : Bool) → is_spelled b ≡ s → (t : Bool) → is_spelled c ≡ t → (if s then spelled b else b ∷ []) ++ key_text key ≡ (if t then spelled c else c ∷ []) ++ key_text other → b ∷ key ≡ c ∷ other
    by next true p true q e =
        let d : upper_digit (b / 16) ≡ upper_digit (c / 16) = cc e in
        let f : upper_digit (b % 16) ≡ upper_digit (c % 16) = cc e in
        let r : key_text key ≡ key_text other = cc e in
        ap₂ (λ x xs. x ∷ xs) (same_byte b c h.0 k.0 d f) (next r)
    by next true p false q e = let d : 0x25 ≡ c = cc e in absurd (other_first c q d)
    by next false p true q e = let d : b ≡ 0x25 = cc e in absurd (other_first b p (sym d))
    by next false p false q e =
        let d : b ≡ c = cc e in
        let r : key_text key ≡ key_text other = cc e in
        ap₂ (λ x xs. x ∷ xs) d (next r)

pub keys_named : KeysAreNamed
keys_named key other h (inl (k, is)) = keys_differ other key k h (sym is)
keys_named key other h (inr (none, is)) = absurd (none key h refl)
