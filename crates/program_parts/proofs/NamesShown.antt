-- Names as they are written in a line.
use Rattle.std.proofs.Common.{◌≡◌, ◌≢◌, ℕ, ◌+◌, ◌/◌, ◌%◌, ◌<◌, ◌≤◌, ◌==◌, nat_lt, List, [], ◌∷◌, ◌++◌, Bool, true, false, not, ◌&&◌, if◌then◌else◌, flat_map, refl, sym, arith, ltb-true, ltb-false, mod-lt}
use Rattle.std.specs.List.{AllByRecursion}
use Rattle.std.proofs.lemmas.Bool.{eqb-false}
use Rattle.std.proofs.Math.Nat.{div-add-mod}
use Rattle.program_parts.specs.Entries.{is_shown, hex_digit, shown_byte}

-- ---- one byte

all_false : (x y z : Bool) → (not x && (not y && not z)) ≡ true → (x ≡ false) × (y ≡ false) × (z ≡ false)
all_false false false false h = (refl, refl, refl)
all_false false false true h = absurd (cc h)
all_false false true z h = absurd (cc h)
all_false true y z h = absurd (cc h)

shown_parts : (b : ℕ) → is_shown b ≡ true → (32 ≤ b) × (b ≢ 127) × (b ≢ 92)
shown_parts b h =
    let k = all_false (nat_lt b 32) (b == 127) (b == 92) h in
    (ltb-false b 32 k.0, eqb-false b 127 k.1, eqb-false b 92 k.2)

-- a byte that is not an ASCII control character
abbrev IsInLine : ℕ → Type 0
IsInLine byte = (0x20 ≤ byte) × (byte ≢ 0x7f)

digit_in_line : (n : ℕ) → n < 16 → IsInLine (hex_digit n)
digit_in_line n lt = by (nat_lt n 10) refl
  where
    by : (t : Bool) → nat_lt n 10 ≡ t → IsInLine (if t then 48 + n else 87 + n)
    by true e = (omega (arith, lt), λ is. omega (arith, lt, is))
    by false e = (omega (arith, lt), λ is. omega (arith, lt, is))

digit_same : (m n : ℕ) → hex_digit m ≡ hex_digit n → m ≡ n
digit_same m n e = by (nat_lt m 10) refl (nat_lt n 10) refl e
  where
    by : (s : Bool) → nat_lt m 10 ≡ s → (t : Bool) → nat_lt n 10 ≡ t → (if s then 48 + m else 87 + m) ≡ (if t then 48 + n else 87 + n) → m ≡ n
    by true p true q k = omega (arith, k)
    by true p false q k = omega (arith, k, ltb-true m 10 p, ltb-false n 10 q)
    by false p true q k = omega (arith, k, ltb-false m 10 p, ltb-true n 10 q)
    by false p false q k = omega (arith, k)

-- a byte as it is written, given whether it is shown as it is
abbrev written : Bool → ℕ → List ℕ
written s b = if s then b ∷ [] else 0x5c ∷ 0x78 ∷ hex_digit (b / 16) ∷ hex_digit (b % 16) ∷ []

byte_in_line : (b : ℕ) → b < 256 → AllByRecursion IsInLine (shown_byte b)
byte_in_line b lt = by (is_shown b) refl
  where
    high : b / 16 < 16
    high = omega (arith, lt, div-add-mod b 16)

    by : (s : Bool) → is_shown b ≡ s → AllByRecursion IsInLine (written s b)
    by true e = let k = shown_parts b e in ((k.0, k.1), tt)
    by false e = ((omega arith, λ is. omega (arith, is)), ((omega arith, λ is. omega (arith, is)), (digit_in_line (b / 16) high, (digit_in_line (b % 16) (mod-lt b (omega arith)), tt))))

-- ---- names

all_append : (P : ℕ → Type 0) (xs ys : List ℕ) → AllByRecursion P xs → AllByRecursion P ys → AllByRecursion P (xs ++ ys)
all_append P [] ys h k = k
all_append P (x ∷ xs) ys h k = (h.0, all_append P xs ys h.1 k)

pub name_in_line : (name : List ℕ) → AllByRecursion (λ byte. byte < 256) name → AllByRecursion (λ byte. (0x20 ≤ byte) × (byte ≢ 0x7f)) (flat_map shown_byte name)
name_in_line [] h = tt
name_in_line (b ∷ more) h = all_append IsInLine (shown_byte b) (flat_map shown_byte more) (byte_in_line b h.0) (name_in_line more h.1)

not_empty : (s : Bool) (b : ℕ) (more : List ℕ) → [] ≡ written s b ++ more → ⊥
not_empty true b more e = cc e
not_empty false b more e = cc e

pub names_apart : (a b : List ℕ) → flat_map shown_byte a ≡ flat_map shown_byte b → a ≡ b
names_apart [] [] e = refl
names_apart [] (y ∷ b) e = absurd (not_empty (is_shown y) y (flat_map shown_byte b) e)
names_apart (x ∷ a) [] e = absurd (not_empty (is_shown x) x (flat_map shown_byte a) (sym e))
names_apart (x ∷ a) (y ∷ b) e = by (is_shown x) refl (is_shown y) refl e (λ k. names_apart a b k)
  where
    by : (s : Bool) → is_shown x ≡ s → (t : Bool) → is_shown y ≡ t → written s x ++ flat_map shown_byte a ≡ written t y ++ flat_map shown_byte b → (flat_map shown_byte a ≡ flat_map shown_byte b → a ≡ b) → x ∷ a ≡ y ∷ b
    by true p true q k same =
        let first : x ≡ y = cc k in
        let others : flat_map shown_byte a ≡ flat_map shown_byte b = cc k in
        λ i. first i ∷ same others i
    by true p false q k same =
        let first : x ≡ 92 = cc k in
        absurd ((shown_parts x p).2 first)
    by false p true q k same =
        let first : 92 ≡ y = cc k in
        absurd ((shown_parts y q).2 (sym first))
    by false p false q k same =
        let high : hex_digit (x / 16) ≡ hex_digit (y / 16) = cc k in
        let low : hex_digit (x % 16) ≡ hex_digit (y % 16) = cc k in
        let others : flat_map shown_byte a ≡ flat_map shown_byte b = cc k in
        let first : x ≡ y = omega (arith, div-add-mod x 16, div-add-mod y 16, digit_same (x / 16) (y / 16) high, digit_same (x % 16) (y % 16) low) in
        λ i. first i ∷ same others i
