-- What bytes show of the head that they begin with.
use Rattle.std.proofs.Common.{◌≡◌, ◌⊎◌, inl, inr, ℕ, zero, suc, ◌+◌, ◌*◌, ◌/◌, ◌%◌, ◌^◌, ◌<◌, ◌≤◌, List, [], ◌∷◌, ◌++◌, refl, sym, ap, ap₂, ◌∙◌, subst, arith, mod-eq_of_lt}
use Rattle.std.proofs.Math.Nat.{div-div-eq-div-mul, pow-succ'}
use Rattle.std.proofs.lemmas.Nat.{div-mul-add}
use Rattle.std.proofs.lemmas.Bool.{cases_eq}
use Rattle.std.proofs.lemmas.Bool.Decides.{nat_tests}
use Rattle.std.specs.Int.{byte_at, bytes_high_first}
use Rattle.dagcbor_core.specs.Head.{head}
use Rattle.dagcbor_core.specs.Causes.{argument_width, least_argument}
use Rattle.dagcbor_core.proofs.Heads.{Row, whole, one, two, four, eight, shape, information_lt, head_whole, head_one, head_two, head_four, head_eight}

-- ---- what a row of the table says of its width

width_tiny : (i : ℕ) → i < 24 → argument_width i ≡ 0
width_tiny i a = grind (arith, nat_tests)

row_width : {i w n : ℕ} → Row i w n → w ≡ argument_width i
row_width {i} (whole a b c) = b ∙ sym (width_tiny i (omega arith))
row_width (one a b c d) = b ∙ sym (ap argument_width a)
row_width (two a b c d) = b ∙ sym (ap argument_width a)
row_width (four a b c d) = b ∙ sym (ap argument_width a)
row_width (eight a b c d) = b ∙ sym (ap argument_width a)

row_least : {i w n : ℕ} → Row i w n → least_argument w ≤ n
row_least (whole a b c) = rw b (omega arith)
row_least (one a b c d) = rw b c
row_least (two a b c d) = rw b c
row_least (four a b c d) = rw b c
row_least (eight a b c d) = rw b c

row_fits : {i w n : ℕ} → Row i w n → 24 ≤ i → n < 256 ^ w
row_fits (whole a b c) h = absurd (omega arith)
row_fits (one a b c d) h = rw b d
row_fits (two a b c d) h = rw b d
row_fits (four a b c d) h = rw b d
row_fits (eight a b c d) h = rw b d

-- ---- what bytes that begin with a head have

pub record Begins (first : ℕ) (more : List ℕ) (major n : ℕ) (rest : List ℕ) : Type 0 where
  pub major_is : first / 32 ≡ major
  pub defined : first % 32 < 28
  pub least : least_argument (argument_width (first % 32)) ≤ n
  pub fits : 24 ≤ first % 32 → n < 256 ^ argument_width (first % 32)
  pub following : more ≡ bytes_high_first (argument_width (first % 32)) n ++ rest

pub begins : (first : ℕ) (more : List ℕ) (major n : ℕ) (rest : List ℕ) → n < 2 ^ 64 → first ∷ more ≡ head major n ++ rest → Begins first more major n rest
begins first more major n rest h e =
    let s = shape major n h in
    let t : first ∷ more ≡ (32 * major + s.information) ∷ (bytes_high_first s.width n ++ rest) = e ∙ ap (λ b. b ++ rest) s.is in
    let first_is : first ≡ 32 * major + s.information = cc in
    let low = information_lt s.row in
    let i : first % 32 ≡ s.information = omega (arith, low) in
    let w : s.width ≡ argument_width (first % 32) = row_width s.row ∙ sym (ap argument_width i) in
    record {
      major_is = omega (arith, low);
      defined = omega (arith, low);
      least = subst (λ k. least_argument k ≤ n) w (row_least s.row);
      fits = λ wide. subst (λ k. n < 256 ^ k) w (row_fits s.row (omega (arith, wide, i)));
      following = let b : more ≡ bytes_high_first s.width n ++ rest = cc in b ∙ ap (λ k. bytes_high_first k n ++ rest) w;
    }

-- ---- the head that bytes make

pub small_head : (first : ℕ) → first % 32 < 24 → head (first / 32) (first % 32) ≡ first ∷ []
small_head first h = head_whole (first / 32) (first % 32) h ∙ ap (λ b. b ∷ []) (omega arith)

byte_of : (first information : ℕ) → first % 32 ≡ information → 32 * (first / 32) + information ≡ first
byte_of first information e = omega arith

WideAt : (first n information width : ℕ) → Type 0
WideAt first n information width = first % 32 ≡ information → least_argument width ≤ n → n < 256 ^ width → head (first / 32) n ≡ first ∷ bytes_high_first width n

wide_one : (first n : ℕ) → WideAt first n 24 1
unfolding WideAt
wide_one first n e a b = head_one (first / 32) n a b ∙ ap₂ (λ x y. x ∷ y ∷ []) (byte_of first 24 e) (sym (mod-eq_of_lt b))

wide_two : (first n : ℕ) → WideAt first n 25 2
unfolding WideAt
wide_two first n e a b = head_two (first / 32) n a b ∙ ap (λ x. x ∷ bytes_high_first 2 n) (byte_of first 25 e)

wide_four : (first n : ℕ) → WideAt first n 26 4
unfolding WideAt
wide_four first n e a b = head_four (first / 32) n a b ∙ ap (λ x. x ∷ bytes_high_first 4 n) (byte_of first 26 e)

wide_eight : (first n : ℕ) → WideAt first n 27 8
unfolding WideAt
wide_eight first n e a b = head_eight (first / 32) n a ∙ ap (λ x. x ∷ bytes_high_first 8 n) (byte_of first 27 e)

informations : (i : ℕ) → 24 ≤ i → i ≤ 27 → (i ≡ 24) ⊎ (i ≡ 25) ⊎ (i ≡ 26) ⊎ (i ≡ 27)
informations i a b = elim (cases_eq i 24) [
  | inl e ↦ inl e
  | inr e ↦ elim (cases_eq i 25) [
    | inl f ↦ inr (inl f)
    | inr f ↦ elim (cases_eq i 26) [ inl g ↦ inr (inr (inl g)) | inr g ↦ inr (inr (inr (omega arith))) ]
  ]
]

wide_at : (first n i : ℕ) → (i ≡ 24) ⊎ (i ≡ 25) ⊎ (i ≡ 26) ⊎ (i ≡ 27) → WideAt first n i (argument_width i)
wide_at first n i (inl e) = subst (λ j. WideAt first n j (argument_width j)) (sym e) (wide_one first n)
wide_at first n i (inr (inl e)) = subst (λ j. WideAt first n j (argument_width j)) (sym e) (wide_two first n)
wide_at first n i (inr (inr (inl e))) = subst (λ j. WideAt first n j (argument_width j)) (sym e) (wide_four first n)
wide_at first n i (inr (inr (inr e))) = subst (λ j. WideAt first n j (argument_width j)) (sym e) (wide_eight first n)

pub wide_head : (first n : ℕ) → 24 ≤ first % 32 → first % 32 ≤ 27 → least_argument (argument_width (first % 32)) ≤ n → n < 256 ^ argument_width (first % 32)
    → head (first / 32) n ≡ first ∷ bytes_high_first (argument_width (first % 32)) n
unfolding WideAt
wide_head first n a b least fits = wide_at first n (first % 32) (informations (first % 32) a b) refl least fits

-- ---- one more byte of an argument

byte_above : (k a b : ℕ) → b < 256 → byte_at (suc k) (a * 256 + b) ≡ byte_at k a
byte_above zero a b h = ap (λ m. m % 256) (div-mul-add a 256 b h)
byte_above (suc k) a b h =
    ap (λ m. (a * 256 + b) / m % 256) (pow-succ' 256 (suc k))
    ∙ ap (λ m. m % 256) (sym (div-div-eq-div-mul (a * 256 + b) 256 (256 ^ suc k)) ∙ ap (λ m. m / 256 ^ suc k) (div-mul-add a 256 b h))

pub one_byte_more : (k a b : ℕ) → b < 256 → bytes_high_first (suc k) (a * 256 + b) ≡ bytes_high_first k a ++ b ∷ []
one_byte_more zero a b h = ap (λ m. m ∷ []) (omega arith)
one_byte_more (suc k) a b h = ap₂ (λ x y. x ∷ y) (byte_above k a b h) (one_byte_more k a b h)
