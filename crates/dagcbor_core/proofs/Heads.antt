-- Laws of heads.
use Rattle.std.proofs.Common.{◌≡◌, inl, inr, ℕ, zero, suc, ◌+◌, ◌*◌, ◌%◌, ◌^◌, ◌<◌, ◌≤◌, List, [], ◌∷◌, ◌++◌, length, get_or, Ordering, Less, Equal, Greater, refl, sym, ap, ap₂, ◌∙◌, arith, lt-ltb, le-ltb, mod-eq_of_lt, nat_cmp}
use Rattle.std.proofs.lemmas.Cmp.{ranked, tied_itself, nat_list_cmp_total}
use Rattle.std.proofs.lemmas.List.{append_cancel_left}
use Rattle.std.proofs.lemmas.Bool.{cases_lt, cases_order}
use Rattle.std.specs.Ordering.{ordering_then}
use Rattle.std.specs.Cmp.Lexicographic.{slice_cmp}
use Rattle.std.specs.Int.{bytes_high_first}
use Rattle.dagcbor_core.specs.Head.{head}
use Rattle.dagcbor_core.proofs.Bytes.{less, equal, greater, cmp_bytes}

pub head_whole : (major n : ℕ) → n < 24 → head major n ≡ (32 * major + n) ∷ []
unfolding head
head_whole major n h = rw (lt-ltb n 24 h) refl

pub head_one : (major n : ℕ) → 24 ≤ n → n < 2 ^ 8 → head major n ≡ (32 * major + 24) ∷ n ∷ []
unfolding head
head_one major n h k = rw (le-ltb n 24 h, lt-ltb n (2 ^ 8) k) refl

pub head_two : (major n : ℕ) → 2 ^ 8 ≤ n → n < 2 ^ 16 → head major n ≡ (32 * major + 25) ∷ bytes_high_first 2 n
unfolding head
head_two major n h k = rw (le-ltb n 24 (omega arith), le-ltb n (2 ^ 8) h, lt-ltb n (2 ^ 16) k) refl

pub head_four : (major n : ℕ) → 2 ^ 16 ≤ n → n < 2 ^ 32 → head major n ≡ (32 * major + 26) ∷ bytes_high_first 4 n
unfolding head
head_four major n h k = rw (le-ltb n 24 (omega arith), le-ltb n (2 ^ 8) (omega arith), le-ltb n (2 ^ 16) h, lt-ltb n (2 ^ 32) k) refl

pub head_eight : (major n : ℕ) → 2 ^ 32 ≤ n → head major n ≡ (32 * major + 27) ∷ bytes_high_first 8 n
unfolding head
head_eight major n h = rw (le-ltb n 24 (omega arith), le-ltb n (2 ^ 8) (omega arith), le-ltb n (2 ^ 16) (omega arith), le-ltb n (2 ^ 32) h) refl

-- a row of the table: the additional information i and w bytes of argument, for the argument n
pub data Row (i w n : ℕ) : Type 0 where
  whole : i ≡ n → w ≡ 0 → n < 24 → Row i w n
  one : i ≡ 24 → w ≡ 1 → 24 ≤ n → n < 2 ^ 8 → Row i w n
  two : i ≡ 25 → w ≡ 2 → 2 ^ 8 ≤ n → n < 2 ^ 16 → Row i w n
  four : i ≡ 26 → w ≡ 4 → 2 ^ 16 ≤ n → n < 2 ^ 32 → Row i w n
  eight : i ≡ 27 → w ≡ 8 → 2 ^ 32 ≤ n → n < 2 ^ 64 → Row i w n

-- a head, by its row
pub record HeadShape (major n : ℕ) : Type 0 where
  pub information : ℕ
  pub width : ℕ
  pub is : head major n ≡ (32 * major + information) ∷ bytes_high_first width n
  pub row : Row information width n

pub shape : (major n : ℕ) → n < 2 ^ 64 → HeadShape major n
shape major n h = elim (cases_lt n 24) [
  | inl a ↦ record { information = n; width = 0; is = head_whole major n a; row = whole refl refl a }
  | inr a ↦ elim (cases_lt n (2 ^ 8)) [
    | inl b ↦ record { information = 24; width = 1; is = head_one major n a b ∙ ap (λ m. (32 * major + 24) ∷ m ∷ []) (sym (mod-eq_of_lt b)); row = one refl refl a b }
    | inr b ↦ elim (cases_lt n (2 ^ 16)) [
      | inl c ↦ record { information = 25; width = 2; is = head_two major n b c; row = two refl refl b c }
      | inr c ↦ elim (cases_lt n (2 ^ 32)) [
        | inl d ↦ record { information = 26; width = 4; is = head_four major n c d; row = four refl refl c d }
        | inr d ↦ record { information = 27; width = 8; is = head_eight major n d; row = eight refl refl d h }
      ]
    ]
  ]
]

-- how two rows compare, as their arguments do
data Ranked (i w n j v o : ℕ) : Type 0 where
  lower : i < j → n < o → Ranked i w n j v o
  level : i ≡ j → w ≡ v → nat_cmp (n % 256 ^ w) (o % 256 ^ w) ≡ nat_cmp n o → Ranked i w n j v o
  higher : j < i → o < n → Ranked i w n j v o

of_width : (w k n o : ℕ) → w ≡ k → n < 256 ^ k → o < 256 ^ k → nat_cmp (n % 256 ^ w) (o % 256 ^ w) ≡ nat_cmp n o
of_width w k n o e h l = rw e (rw (mod-eq_of_lt h, mod-eq_of_lt l) refl)

of_none : (w n o : ℕ) → w ≡ 0 → n ≡ o → nat_cmp (n % 256 ^ w) (o % 256 ^ w) ≡ nat_cmp n o
of_none w n o e h = equal _ _ (ap (λ m. m % 256 ^ w) h) ∙ sym (equal n o h)

compare : {i w n j v o : ℕ} → Row i w n → Row j v o → Ranked i w n j v o
compare {i} {w} {n} {j} {v} {o} (whole a1 b1 c1) (whole a2 b2 c2) = elim (cases_order n o) [
  | inl e ↦ level (omega arith) (omega arith) (of_none w n o b1 e)
  | inr s ↦ elim s [ inl lt ↦ lower (omega arith) (omega arith) | inr gt ↦ higher (omega arith) (omega arith) ]
]
compare {i} {w} {n} {j} {v} {o} (whole a1 b1 c1) (one a2 b2 c2 d2) = lower (omega arith) (omega arith)
compare {i} {w} {n} {j} {v} {o} (whole a1 b1 c1) (two a2 b2 c2 d2) = lower (omega arith) (omega arith)
compare {i} {w} {n} {j} {v} {o} (whole a1 b1 c1) (four a2 b2 c2 d2) = lower (omega arith) (omega arith)
compare {i} {w} {n} {j} {v} {o} (whole a1 b1 c1) (eight a2 b2 c2 d2) = lower (omega arith) (omega arith)
compare {i} {w} {n} {j} {v} {o} (one a1 b1 c1 d1) (whole a2 b2 c2) = higher (omega arith) (omega arith)
compare {i} {w} {n} {j} {v} {o} (one a1 b1 c1 d1) (one a2 b2 c2 d2) = level (omega arith) (omega arith) (of_width w 1 n o b1 d1 d2)
compare {i} {w} {n} {j} {v} {o} (one a1 b1 c1 d1) (two a2 b2 c2 d2) = lower (omega arith) (omega arith)
compare {i} {w} {n} {j} {v} {o} (one a1 b1 c1 d1) (four a2 b2 c2 d2) = lower (omega arith) (omega arith)
compare {i} {w} {n} {j} {v} {o} (one a1 b1 c1 d1) (eight a2 b2 c2 d2) = lower (omega arith) (omega arith)
compare {i} {w} {n} {j} {v} {o} (two a1 b1 c1 d1) (whole a2 b2 c2) = higher (omega arith) (omega arith)
compare {i} {w} {n} {j} {v} {o} (two a1 b1 c1 d1) (one a2 b2 c2 d2) = higher (omega arith) (omega arith)
compare {i} {w} {n} {j} {v} {o} (two a1 b1 c1 d1) (two a2 b2 c2 d2) = level (omega arith) (omega arith) (of_width w 2 n o b1 d1 d2)
compare {i} {w} {n} {j} {v} {o} (two a1 b1 c1 d1) (four a2 b2 c2 d2) = lower (omega arith) (omega arith)
compare {i} {w} {n} {j} {v} {o} (two a1 b1 c1 d1) (eight a2 b2 c2 d2) = lower (omega arith) (omega arith)
compare {i} {w} {n} {j} {v} {o} (four a1 b1 c1 d1) (whole a2 b2 c2) = higher (omega arith) (omega arith)
compare {i} {w} {n} {j} {v} {o} (four a1 b1 c1 d1) (one a2 b2 c2 d2) = higher (omega arith) (omega arith)
compare {i} {w} {n} {j} {v} {o} (four a1 b1 c1 d1) (two a2 b2 c2 d2) = higher (omega arith) (omega arith)
compare {i} {w} {n} {j} {v} {o} (four a1 b1 c1 d1) (four a2 b2 c2 d2) = level (omega arith) (omega arith) (of_width w 4 n o b1 d1 d2)
compare {i} {w} {n} {j} {v} {o} (four a1 b1 c1 d1) (eight a2 b2 c2 d2) = lower (omega arith) (omega arith)
compare {i} {w} {n} {j} {v} {o} (eight a1 b1 c1 d1) (whole a2 b2 c2) = higher (omega arith) (omega arith)
compare {i} {w} {n} {j} {v} {o} (eight a1 b1 c1 d1) (one a2 b2 c2 d2) = higher (omega arith) (omega arith)
compare {i} {w} {n} {j} {v} {o} (eight a1 b1 c1 d1) (two a2 b2 c2 d2) = higher (omega arith) (omega arith)
compare {i} {w} {n} {j} {v} {o} (eight a1 b1 c1 d1) (four a2 b2 c2 d2) = higher (omega arith) (omega arith)
compare {i} {w} {n} {j} {v} {o} (eight a1 b1 c1 d1) (eight a2 b2 c2 d2) = level (omega arith) (omega arith) (of_width w 8 n o b1 d1 d2)

-- heads of one major type, and what follows them, compare by their arguments first
pub head_cmp : (major n o : ℕ) (x y : List ℕ) → n < 2 ^ 64 → o < 2 ^ 64 → slice_cmp nat_cmp (head major n ++ x) (head major o ++ y) ≡ ordering_then (nat_cmp n o) (slice_cmp nat_cmp x y)
head_cmp major n o x y h k =
    let s = shape major n h in
    let t = shape major o k in
    ap₂ (λ a b. slice_cmp nat_cmp (a ++ x) (b ++ y)) s.is t.is ∙ by s t (compare s.row t.row)
  where
    by : (s : HeadShape major n) (t : HeadShape major o) → Ranked s.information s.width n t.information t.width o →
        slice_cmp nat_cmp ((32 * major + s.information) ∷ (bytes_high_first s.width n ++ x)) ((32 * major + t.information) ∷ (bytes_high_first t.width o ++ y)) ≡ ordering_then (nat_cmp n o) (slice_cmp nat_cmp x y)
    by s t (lower a b) = ap (λ c. ordering_then c (slice_cmp nat_cmp (bytes_high_first s.width n ++ x) (bytes_high_first t.width o ++ y))) (less (32 * major + s.information) (32 * major + t.information) (omega arith)) ∙ ap (λ c. ordering_then c (slice_cmp nat_cmp x y)) (sym (less n o b))
    by s t (level a b c) = ap (λ c. ordering_then c (slice_cmp nat_cmp (bytes_high_first s.width n ++ x) (bytes_high_first t.width o ++ y))) (equal (32 * major + s.information) (32 * major + t.information) (omega arith))
        ∙ ap (λ w. slice_cmp nat_cmp (bytes_high_first s.width n ++ x) (bytes_high_first w o ++ y)) (sym b)
        ∙ cmp_bytes s.width n o x y
        ∙ ap (λ o. ordering_then o (slice_cmp nat_cmp x y)) c
    by s t (higher a b) = ap (λ c. ordering_then c (slice_cmp nat_cmp (bytes_high_first s.width n ++ x) (bytes_high_first t.width o ++ y))) (greater (32 * major + s.information) (32 * major + t.information) (omega arith)) ∙ ap (λ c. ordering_then c (slice_cmp nat_cmp x y)) (sym (greater n o b))

pub information_lt : {i w n : ℕ} → Row i w n → i < 28
information_lt (whole a b c) = omega arith
information_lt (one a b c d) = omega arith
information_lt (two a b c d) = omega arith
information_lt (four a b c d) = omega arith
information_lt (eight a b c d) = omega arith

pub length-bytes_high_first : (k n : ℕ) → length (bytes_high_first k n) ≡ k
length-bytes_high_first zero n = refl
length-bytes_high_first (suc k) n = omega (arith, length-bytes_high_first k n)

-- the first byte: the major type, and information below 28
pub head_first : (major n : ℕ) → n < 2 ^ 64 → (i : ℕ) × (rest : List ℕ) × (i < 28) × (head major n ≡ (32 * major + i) ∷ rest)
head_first major n h = let s = shape major n h in (s.information, bytes_high_first s.width n, information_lt s.row, s.is)

first_of_cmp : (a b : Ordering) → ordering_then a b ≡ Equal → a ≡ Equal
first_of_cmp Less b e = e
first_of_cmp Equal b e = refl
first_of_cmp Greater b e = e

cmp_of_same : (xs ys : List ℕ) → xs ≡ ys → slice_cmp nat_cmp xs ys ≡ Equal
cmp_of_same xs ys e = ap (slice_cmp nat_cmp xs) (sym e) ∙ tied_itself nat_list_cmp_total xs

same_from_nat_cmp : (m n : ℕ) → nat_cmp m n ≡ Equal → m ≡ n
same_from_nat_cmp m n e = ranked m n Equal (sym e)

-- a head is read in one way, whatever follows it
pub head_unique : (major n other o : ℕ) (x y : List ℕ) → n < 2 ^ 64 → o < 2 ^ 64 → head major n ++ x ≡ head other o ++ y → (major ≡ other) × (n ≡ o) × (x ≡ y)
head_unique major n other o x y h k e =
    let s = shape major n h in
    let t = shape other o k in
    let first = ap (λ bs. get_or bs 0 0) (sym (ap (λ b. b ++ x) s.is) ∙ e ∙ ap (λ b. b ++ y) t.is) in
    let i = information_lt s.row in
    let j = information_lt t.row in
    let major_is : major ≡ other = omega arith in
    let whole : head major n ++ x ≡ head major o ++ y = e ∙ ap (λ m. head m o ++ y) (sym major_is) in
    let n_is = same_from_nat_cmp n o (first_of_cmp _ (slice_cmp nat_cmp x y) (sym (head_cmp major n o x y h k) ∙ cmp_of_same _ _ whole)) in
    (major_is, n_is, append_cancel_left (head major n) x y (whole ∙ ap (λ m. head major m ++ y) (sym n_is)))

-- k bytes spell one number below 256 ^ k, whatever follows them
pub same_of_bytes : (k n o : ℕ) (x y : List ℕ) → n < 256 ^ k → o < 256 ^ k → bytes_high_first k n ++ x ≡ bytes_high_first k o ++ y → n ≡ o
same_of_bytes k n o x y h l e =
    let same = same_from_nat_cmp _ _ (first_of_cmp _ (slice_cmp nat_cmp x y) (sym (cmp_bytes k n o x y) ∙ cmp_of_same _ _ e)) in
    sym (mod-eq_of_lt h) ∙ same ∙ mod-eq_of_lt l
