-- A head is read as its argument, and what is read in this way is a head.
use Rattle.std.proofs.Common.{◌≡◌, ◌⊎◌, inl, inr, ℕ, zero, suc, ◌+◌, ◌*◌, ◌/◌, ◌%◌, ◌^◌, ◌<◌, ◌≤◌, List, [], ◌∷◌, ◌++◌, length, take, drop, get_or, Bool, true, false, if◌then◌else◌, nat_lt, ◌==◌, refl, sym, ap, ap₂, ◌∙◌, subst, arith, lt-ltb, le-ltb, mod-eq_of_lt, length-append, take-append-drop, length-take}
use Rattle.std.proofs.Math.Seq.{take-append_seam, drop-append_seam}
use Rattle.std.proofs.lemmas.Bool.{ltb-false, cases_lt}
use Rattle.std.proofs.lemmas.Bool.Decides.{eqb_tells}
use Rattle.std.proofs.lemmas.Nat.{from_be_bytes-to_be_bytes_2, from_be_bytes-to_be_bytes_4, from_be_bytes-to_be_bytes_8, be_bytes_2, be_bytes_4, be_bytes_8}
use Rattle.std.specs.Int.{w8, w16, w32, w64, Width, from_be_bytes, bytes_high_first}
use Rattle.dagcbor_core.specs.Head.{head}
use Rattle.dagcbor_core.proofs.Heads.{Row, whole, one, two, four, eight, shape, information_lt, length-bytes_high_first, head_one, head_two, head_four, head_eight}
use Rattle.dagcbor_core.proofs.HeadForms.{small_head}
use Rattle.dagcbor_decode.specs.Decode.{Decoded, got, refused, indefinite_size, unsupported, after, payload, at_least, number, argument_by, argument_of}

-- ---- what was read, backwards

pub after_got : {A B : Type 0} (r : Decoded A) (f : A → List ℕ → Decoded B) (b : B) (rest : List ℕ) → after r f ≡ got b rest → (a : A) × (mid : List ℕ) × (r ≡ got a mid) × (f a mid ≡ got b rest)
after_got (got a mid) f b rest e = (a, mid, refl, e)
after_got (refused why following) f b rest e = absurd (cc e)

pub if_got : {A : Type 0} (c : Bool) (x y z : A) → (if c then x else y) ≡ z → ((c ≡ true) × (x ≡ z)) ⊎ ((c ≡ false) × (y ≡ z))
if_got true x y z e = inl (refl, e)
if_got false x y z e = inr (refl, e)

-- if it is either that or a refusal
pub if_only : {A : Type 0} (c : Bool) (x y : Decoded A) (a : A) (rest : List ℕ) → ((¬ (y ≡ got a rest))) → (if c then x else y) ≡ got a rest → (c ≡ true) × (x ≡ got a rest)
if_only true x y a rest n e = (refl, e)
if_only false x y a rest n e = absurd (n e)

pub if_not : {A : Type 0} (c : Bool) (x y : Decoded A) (a : A) (rest : List ℕ) → ((¬ (x ≡ got a rest))) → (if c then x else y) ≡ got a rest → (c ≡ false) × (y ≡ got a rest)
if_not true x y a rest n e = absurd (n e)
if_not false x y a rest n e = (refl, e)

pub same_read : {A : Type 0} (a c : A) (x y : List ℕ) → got a x ≡ got c y → (a ≡ c) × (x ≡ y)
same_read a c x y e = (cc e, cc e)

-- ---- payloads

pub payload_front : (name : List ℕ) (n : ℕ) (s rest : List ℕ) → n ≡ length s → payload name n (s ++ rest) ≡ got s rest
payload_front name n s rest e =
    rw e (rw (le-ltb (length (s ++ rest)) (length s) (omega (arith, length-append s rest)), take-append_seam s rest, drop-append_seam s rest) refl)

pub payload_got : (name : List ℕ) (n : ℕ) (b s rest : List ℕ) → payload name n b ≡ got s rest → (length s ≡ n) × (b ≡ s ++ rest)
payload_got name n b s rest e =
    let h = if_not (nat_lt (length b) n) (refused _ 0) (got (take n b) (drop n b)) s rest (λ x. absurd (cc x)) e in
    let few = ltb-false (length b) n h.0 in
    let same = same_read _ _ _ _ h.1 in
    (ap length (sym same.0) ∙ length-take n b ∙ omega (arith, few), sym (take-append-drop n b) ∙ ap₂ (λ x y. x ++ y) same.0 same.1)

-- ---- numbers

number_front : (name : List ℕ) (first : ℕ) (w : Width) (width least n : ℕ) (rest : List ℕ) → from_be_bytes w (bytes_high_first width n) ≡ n → least ≤ n → number name first w width least (bytes_high_first width n ++ rest) ≡ got n rest
number_front name first w width least n rest e h =
    ap (λ r. after r (λ s. at_least name first least (from_be_bytes w s))) (payload_front name width (bytes_high_first width n) rest (sym (length-bytes_high_first width n)))
    ∙ ap (λ m. at_least name first least m rest) e ∙ rw (le-ltb n least h) refl

number_got : (name : List ℕ) (first : ℕ) (w : Width) (width least n : ℕ) (b rest : List ℕ) → number name first w width least b ≡ got n rest → (s : List ℕ) × (length s ≡ width) × (b ≡ s ++ rest) × (from_be_bytes w s ≡ n) × (least ≤ n)
number_got name first w width least n b rest e =
    let h = after_got (payload name width b) (λ s. at_least name first least (from_be_bytes w s)) n rest e in
    let p = payload_got name width b h.0 h.1 h.2 in
    let m = if_not (nat_lt (from_be_bytes w h.0) least) (refused _ _) (got (from_be_bytes w h.0) h.1) n rest (λ x. absurd (cc x)) h.3 in
    let same = same_read _ _ _ _ m.1 in
    (h.0, p.0, p.1 ∙ ap (λ x. h.0 ++ x) same.1, same.0, subst (λ k. least ≤ k) same.0 (ltb-false (from_be_bytes w h.0) least m.0))

-- ---- heads

-- a head is read, whatever the name
pub record ReadsHead (major n : ℕ) (b rest : List ℕ) : Type 0 where
  pub first : ℕ
  pub more : List ℕ
  pub is : b ≡ first ∷ more
  pub major_is : first / 32 ≡ major
  pub defined : first % 32 < 28
  pub reads : (name : List ℕ) → argument_of name first more ≡ got n rest

pub head_front : (major n : ℕ) (rest : List ℕ) → n < 2 ^ 64 → ReadsHead major n (head major n ++ rest) rest
head_front major n rest h = let s = shape major n h in record {
  first = 32 * major + s.information;
  more = bytes_high_first s.width n ++ rest;
  is = ap (λ x. x ++ rest) s.is;
  major_is = omega (arith, information_lt s.row);
  defined = omega (arith, information_lt s.row);
  reads = λ name.
      let i : (32 * major + s.information) % 32 ≡ s.information = omega (arith, information_lt s.row) in
      ap (argument_by name (32 * major + s.information) (bytes_high_first s.width n ++ rest)) i ∙ by_row name (32 * major + s.information) s.information s.width s.row;
}
  where
    by_row : (name : List ℕ) (first i w : ℕ) → Row i w n → argument_by name first (bytes_high_first w n ++ rest) i ≡ got n rest
    by_row name first i w (whole a b c) = rw (b, a, lt-ltb n 24 c) refl
    by_row name first i w (one a b c d) = rw (a, b) (number_front name first w8 1 24 n rest (mod-eq_of_lt d) c)
    by_row name first i w (two a b c d) = rw (a, b) (number_front name first w16 2 (2 ^ 8) n rest (from_be_bytes-to_be_bytes_2 n d) c)
    by_row name first i w (four a b c d) = rw (a, b) (number_front name first w32 4 (2 ^ 16) n rest (from_be_bytes-to_be_bytes_4 n d) c)
    by_row name first i w (eight a b c d) = rw (a, b) (number_front name first w64 8 (2 ^ 32) n rest (from_be_bytes-to_be_bytes_8 n d) c)

-- each is below 256
abbrev pub AreBytes : List ℕ → Type 0
AreBytes b = (i : ℕ) → get_or b i 0 < 256

pub bytes_front : (s rest : List ℕ) → AreBytes (s ++ rest) → AreBytes s
bytes_front [] rest h i = omega arith
bytes_front (a ∷ s) rest h zero = h 0
bytes_front (a ∷ s) rest h (suc i) = bytes_front s rest (λ k. h (suc k)) i

pub bytes_of_rest : (s rest : List ℕ) → AreBytes (s ++ rest) → AreBytes rest
bytes_of_rest [] rest h = h
bytes_of_rest (a ∷ s) rest h = bytes_of_rest s rest (λ k. h (suc k))

below_1 : (s : List ℕ) → AreBytes s → from_be_bytes w8 s < 256
below_1 s h = omega (arith, h 0)

below_2 : (s : List ℕ) → AreBytes s → from_be_bytes w16 s < 2 ^ 16
below_2 s h = omega (arith, h 0, h 1)

below_4 : (s : List ℕ) → AreBytes s → from_be_bytes w32 s < 2 ^ 32
below_4 s h = omega (arith, h 0, h 1, h 2, h 3)

below_8 : (s : List ℕ) → AreBytes s → from_be_bytes w64 s < 2 ^ 64
below_8 s h = omega (arith, h 0, h 1, h 2, h 3, h 4, h 5, h 6, h 7)

be_bytes_1 : (s : List ℕ) (n : ℕ) → length s ≡ 1 → AreBytes s → n ≡ from_be_bytes w8 s → bytes_high_first 1 n ≡ s
be_bytes_1 [] n l h e = absurd (omega arith)
be_bytes_1 (a ∷ []) n l h e = ap (λ m. m ∷ []) (omega (arith, e, h 0))
be_bytes_1 (a ∷ b ∷ s) n l h e = absurd (omega arith)

nat_tells : (i n : ℕ) → ((nat_lt i n ≡ true) × (i < n)) ⊎ ((nat_lt i n ≡ false) × (n ≤ i))
nat_tells i n = elim (cases_lt i n) [ inl a ↦ inl (lt-ltb i n a, a) | inr a ↦ inr (le-ltb i n a, a) ]

byte_of : (first information : ℕ) → first % 32 ≡ information → 32 * (first / 32) + information ≡ first
byte_of first information e = omega arith

wide_one : (first : ℕ) (s : List ℕ) → AreBytes s → length s ≡ 1 → (k : ℕ) → from_be_bytes w8 s ≡ k → 24 ≤ k → first % 32 ≡ 24 → head (first / 32) k ≡ first ∷ s
wide_one first s q l k m o is = head_one (first / 32) k o (omega (arith, below_1 s q, m)) ∙ ap₂ (λ x y. x ∷ y) (byte_of first 24 is) (ap (λ x. x ∷ []) (sym (mod-eq_of_lt (omega (arith, below_1 s q, m)))) ∙ be_bytes_1 s k l q (sym m))

wide_two : (first : ℕ) (s : List ℕ) → AreBytes s → length s ≡ 2 → (k : ℕ) → from_be_bytes w16 s ≡ k → 2 ^ 8 ≤ k → first % 32 ≡ 25 → head (first / 32) k ≡ first ∷ s
wide_two first s q l k m o is = head_two (first / 32) k o (omega (arith, below_2 s q, m)) ∙ ap₂ (λ x y. x ∷ y) (byte_of first 25 is) (be_bytes_2 s k l q (sym m))

wide_four : (first : ℕ) (s : List ℕ) → AreBytes s → length s ≡ 4 → (k : ℕ) → from_be_bytes w32 s ≡ k → 2 ^ 16 ≤ k → first % 32 ≡ 26 → head (first / 32) k ≡ first ∷ s
wide_four first s q l k m o is = head_four (first / 32) k o (omega (arith, below_4 s q, m)) ∙ ap₂ (λ x y. x ∷ y) (byte_of first 26 is) (be_bytes_4 s k l q (sym m))

wide_eight : (first : ℕ) (s : List ℕ) → AreBytes s → length s ≡ 8 → (k : ℕ) → from_be_bytes w64 s ≡ k → 2 ^ 32 ≤ k → first % 32 ≡ 27 → head (first / 32) k ≡ first ∷ s
wide_eight first s q l k m o is = head_eight (first / 32) k o ∙ ap₂ (λ x y. x ∷ y) (byte_of first 27 is) (be_bytes_8 s k l q (sym m))

small_got : (name : List ℕ) (first n i : ℕ) (b rest : List ℕ) → nat_lt i 24 ≡ true → argument_by name first b i ≡ got n rest → got i b ≡ got n rest
small_got name first n i b rest h e = rw h at e

no_head_got : (name : List ℕ) (first n i : ℕ) (b rest : List ℕ) → nat_lt i 24 ≡ false → (i == 24) ≡ false → (i == 25) ≡ false → (i == 26) ≡ false → (i == 27) ≡ false → argument_by name first b i ≡ got n rest → ⊥
no_head_got name first n i b rest h1 h2 h3 h4 h5 e =
    let d : (if i == 31 then refused indefinite_size (length b) else refused (unsupported name first) (length b)) ≡ got n rest = rw (h1, h2, h3, h4, h5) at e in
    elim (if_got (i == 31) (refused indefinite_size (length b)) (refused (unsupported name first) (length b)) (got n rest) d) [ inl x ↦ absurd (cc x.1) | inr x ↦ absurd (cc x.1) ]

-- the bytes are a head of this argument, and what follows it
abbrev pub IsHead : (first n : ℕ) (b rest : List ℕ) → Type 0
IsHead first n b rest = (n < 2 ^ 64) × (first ∷ b ≡ head (first / 32) n ++ rest)

pub head_got : (name : List ℕ) (first n : ℕ) (b rest : List ℕ) → AreBytes b → argument_of name first b ≡ got n rest → IsHead first n b rest
head_got name first n b rest r e = by (first % 32) refl e
  where
    wide : (w : Width) (width least : ℕ) → ((s : List ℕ) → AreBytes s → length s ≡ width → (k : ℕ) → from_be_bytes w s ≡ k → least ≤ k → (k < 2 ^ 64) × (head (first / 32) k ≡ first ∷ s)) → number name first w width least b ≡ got n rest → IsHead first n b rest
    wide w width least f e =
        let k = number_got name first w width least n b rest e in
        let h = f k.0 (bytes_front k.0 rest (subst AreBytes k.2 r)) k.1 n k.3 k.4 in
        (h.0, ap (λ x. first ∷ x) k.2 ∙ ap (λ x. x ++ rest) (sym h.1))

    by : (i : ℕ) → first % 32 ≡ i → argument_by name first b i ≡ got n rest → IsHead first n b rest
    by i is e = elim (nat_tells i 24) [
      | inl h ↦ let same = same_read _ _ _ _ (small_got name first n i b rest h.0 e) in (omega (arith, h.1, same.0), ap (λ x. first ∷ x) same.1 ∙ ap (λ x. x ++ rest) (sym (small_head first (omega (arith, h.1)))) ∙ ap (λ m. head (first / 32) m ++ rest) (is ∙ same.0))
      | inr h ↦ elim (eqb_tells i 24) [
        | inl a ↦ wide w8 1 24 (λ s q l k m o. (omega (arith, below_1 s q), wide_one first s q l k m o (is ∙ a.1))) (subst (λ j. argument_by name first b j ≡ got n rest) a.1 e)
        | inr a ↦ elim (eqb_tells i 25) [
          | inl c ↦ wide w16 2 (2 ^ 8) (λ s q l k m o. (omega (arith, below_2 s q), wide_two first s q l k m o (is ∙ c.1))) (subst (λ j. argument_by name first b j ≡ got n rest) c.1 e)
          | inr c ↦ elim (eqb_tells i 26) [
            | inl d ↦ wide w32 4 (2 ^ 16) (λ s q l k m o. (omega (arith, below_4 s q), wide_four first s q l k m o (is ∙ d.1))) (subst (λ j. argument_by name first b j ≡ got n rest) d.1 e)
            | inr d ↦ elim (eqb_tells i 27) [
              | inl f ↦ wide w64 8 (2 ^ 32) (λ s q l k m o. (omega (arith, below_8 s q, m), wide_eight first s q l k m o (is ∙ f.1))) (subst (λ j. argument_by name first b j ≡ got n rest) f.1 e)
              | inr f ↦ absurd (no_head_got name first n i b rest h.0 a.0 c.0 d.0 f.0 e)
            ]
          ]
        ]
      ]
    ]
