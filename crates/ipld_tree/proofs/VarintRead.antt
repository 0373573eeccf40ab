-- A varint, read group by group.
use Rattle.std.proofs.Common.{◌≡◌, ◌≢◌, ◌⊎◌, inl, inr, ℕ, zero, suc, ◌+◌, ◌*◌, ◌/◌, ◌%◌, ◌^◌, ◌<◌, ◌≤◌, List, [], ◌∷◌, ◌++◌, length, take, drop, get_or, refl, sym, ap, ◌∙◌, arith, append_assoc, add-one, take-append-drop, take_all, add-mul, mul_assoc, mul_comm, one-mul, div-mul-le_self, mod-eq_of_lt, drop-cons, take-suc}
use Rattle.std.proofs.lemmas.Bool.{cases_lt, cases_eq}
use Rattle.std.proofs.lemmas.Nat.{mul-le}
use Rattle.std.proofs.Math.Nat.{pow-le-pow_right, pow-succ'}
use Rattle.ipld_tree.specs.Cid.{varint, varint_groups}
use Rattle.ipld_tree.specs.CidFault.{IsCutVarint, IsNoVarint}
use Rattle.ipld_tree.proofs.Cids.{one_group, more_groups}

-- the number that the remaining groups stand for: not zero, unless they are all of the groups
abbrev pub IsRest : ℕ → ℕ → Type 0
IsRest i m = (0 < m) ⊎ (i ≡ 0)

-- a number whose varint begins with the bytes has these groups after the first i
pub record HasRest (bytes : List ℕ) (i unit left n : ℕ) (x y : List ℕ) : Type 0 where
  pub rest : ℕ
  pub is_rest : IsRest i rest
  pub within : rest * unit ≤ n
  pub is : drop i bytes ++ x ≡ varint_groups (suc left) rest ++ y

-- the first i groups are read, and their bits make the number
pub record IsVarintRead (bytes : List ℕ) (i number unit : ℕ) : Type 0 where
  pub left : ℕ
  pub few : i + left ≡ 9
  pub unit_is : unit ≡ 128 ^ i
  pub below : number < unit
  pub goes_on : (m : ℕ) → IsRest i m → varint (number + m * unit) ≡ take i bytes ++ varint_groups (suc left) m
  pub only_so : (n : ℕ) (x y : List ℕ) → n < 2 ^ 64 → bytes ++ x ≡ varint n ++ y → HasRest bytes i unit left n x y

pub no_varint_byte_read : (bytes : List ℕ) → IsVarintRead bytes 0 0 1
unfolding varint
no_varint_byte_read bytes = record {
  left = 9;
  few = refl;
  unit_is = refl;
  below = omega arith;
  goes_on = λ m h. ap (varint_groups 10) (omega arith);
  only_so = λ n x y lt e. record { rest = n; is_rest = inr refl; within = omega arith; is = e };
}

-- ---- one group

-- the first group is the last one, or one with more after it
first_group : (k m g : ℕ) (s y : List ℕ) → g ∷ s ≡ varint_groups (suc k) m ++ y
    → (m < 128) × (g ≡ m) ⊎ (128 ≤ m) × (g ≡ 128 + m % 128) × (s ≡ varint_groups k (m / 128) ++ y)
first_group k m g s y e = elim (cases_lt m 128) [
  | inl h ↦ let f : g ∷ s ≡ m ∷ y = e ∙ ap (λ gs. gs ++ y) (one_group k m h) in inl (h, cc f)
  | inr h ↦ let f : g ∷ s ≡ (128 + m % 128) ∷ (varint_groups k (m / 128) ++ y) = e ∙ ap (λ gs. gs ++ y) (more_groups k m h) in inr (h, cc f, cc f)
]

-- ---- the bounds

unit_at_most : (i left unit : ℕ) → i + left ≡ 9 → unit ≡ 128 ^ i → unit ≤ 2 ^ 63
unit_at_most i left unit few is = let most = pow-le-pow_right {n = 128} (omega arith) {i = i} {j = 9} (omega arith) in omega (arith, most)

unit_before_last : (i left unit : ℕ) → i + left ≡ 9 → i ≢ 9 → unit ≡ 128 ^ i → unit ≤ 2 ^ 56
unit_before_last i left unit few apart is = let most = pow-le-pow_right {n = 128} (omega arith) {i = i} {j = 8} (omega arith) in omega (arith, most)

unit_last : (i unit : ℕ) → i ≡ 9 → unit ≡ 128 ^ i → unit ≡ 2 ^ 63
unit_last i unit e is = is ∙ ap (λ j. 128 ^ j) e

below_two : (m unit n : ℕ) → unit ≡ 2 ^ 63 → m * unit ≤ n → n < 2 ^ 64 → m < 2
below_two m unit n is within fits = let product : m * unit ≡ m * 2 ^ 63 = ap (λ u. m * u) is in omega (arith, product, within, fits)

-- ---- one step

number_shift : (number unit bits m : ℕ) → number + (bits + m * 128) * unit ≡ (number + bits * unit) + m * (unit * 128)
number_shift number unit bits m =
    let apart = add-mul bits (m * 128) unit in
    let outer : m * 128 * unit ≡ m * (unit * 128) = mul_assoc m 128 unit ∙ ap (λ u. m * u) (mul_comm 128 unit) in
    omega (arith, apart, outer)

-- a group of lower bits is put before the rest
group_before : (k g bits m : ℕ) → 0 < m → bits < 128 → g ≡ 128 + bits → varint_groups (suc k) (bits + m * 128) ≡ g ∷ varint_groups k m
group_before k g bits m h low is =
    let lowest : (bits + m * 128) % 128 ≡ bits = omega arith in
    let others : (bits + m * 128) / 128 ≡ m = omega arith in
    more_groups k (bits + m * 128) (omega arith) ∙ (λ i. (128 + lowest i) ∷ varint_groups k (others i)) ∙ ap (λ b. b ∷ varint_groups k m) (sym is)

-- the groups read, and one more
one_taken : (bytes : List ℕ) (i g : ℕ) (s : List ℕ) → i < length bytes → g ≡ get_or bytes i 0 → take i bytes ++ g ∷ s ≡ take (i + 1) bytes ++ s
one_taken bytes i g s h is =
    let more : take (i + 1) bytes ≡ take i bytes ++ g ∷ [] = ap (λ n. take n bytes) (add-one i) ∙ take-suc bytes i 0 h ∙ ap (λ y. take i bytes ++ y ∷ []) (sym is) in
    sym (append_assoc (take i bytes) (g ∷ []) s) ∙ ap (λ t. t ++ s) (sym more)

one_dropped : (bytes : List ℕ) (i g : ℕ) → i < length bytes → g ≡ get_or bytes i 0 → drop i bytes ≡ g ∷ drop (i + 1) bytes
one_dropped bytes i g h is = drop-cons bytes i 0 h ∙ (λ j. sym is j ∷ drop (sym (add-one i) j) bytes)

pub one_varint_byte_read : (bytes : List ℕ) (i number unit g bits : ℕ) → IsVarintRead bytes i number unit → i < length bytes → g ≡ get_or bytes i 0 → 128 ≤ g → g < 256 → bits ≡ g % 128
    → ((g ≡ 0) × (0 < i) ⊎ (i ≡ 9) × (g ≢ 1) → ⊥) → IsVarintRead bytes (i + 1) (number + bits * unit) (unit * 128)
one_varint_byte_read bytes i number unit g bits r here is long byte low ok = by r.left r.few r.goes_on r.only_so
  where
    by : (left : ℕ) → i + left ≡ 9 → ((m : ℕ) → IsRest i m → varint (number + m * unit) ≡ take i bytes ++ varint_groups (suc left) m)
        → ((n : ℕ) (x y : List ℕ) → n < 2 ^ 64 → bytes ++ x ≡ varint n ++ y → HasRest bytes i unit left n x y)
        → IsVarintRead bytes (i + 1) (number + bits * unit) (unit * 128)
    by zero few goes only = absurd (ok (inr (omega arith, λ one. omega (arith, one))))
    by (suc k) few goes only = record {
      left = k;
      few = omega arith;
      unit_is = ap (λ u. u * 128) r.unit_is ∙ mul_comm (128 ^ i) 128 ∙ sym (pow-succ' 128 i) ∙ ap (λ j. 128 ^ j) (sym (add-one i));
      below = let part = mul-le bits unit 127 unit (omega arith) (omega arith) in let bound = r.below in omega (arith, part, bound);
      goes_on = λ m h. more m (positive m h);
      only_so = λ n x y fits e. following n x y (only n x y fits e);
    }
      where
        positive : (m : ℕ) → IsRest (i + 1) m → 0 < m
        positive m (inl h) = h
        positive m (inr h) = absurd (omega (arith, h))

        more : (m : ℕ) → 0 < m → varint (number + bits * unit + m * (unit * 128)) ≡ take (i + 1) bytes ++ varint_groups (suc k) m
        more m h =
            ap varint (sym (number_shift number unit bits m))
            ∙ goes (bits + m * 128) (inl (omega arith))
            ∙ ap (λ gs. take i bytes ++ gs) (group_before (suc k) g bits m h (omega arith) (omega arith))
            ∙ one_taken bytes i g (varint_groups (suc k) m) here is

        following : (n : ℕ) (x y : List ℕ) → HasRest bytes i unit (suc k) n x y → HasRest bytes (i + 1) (unit * 128) k n x y
        following n x y q = split (first_group (suc k) q.rest g (drop (i + 1) bytes ++ x) y (ap (λ b. b ++ x) (sym (one_dropped bytes i g here is)) ∙ q.is))
          where
            split : (q.rest < 128) × (g ≡ q.rest) ⊎ (128 ≤ q.rest) × (g ≡ 128 + q.rest % 128) × (drop (i + 1) bytes ++ x ≡ varint_groups (suc k) (q.rest / 128) ++ y) → HasRest bytes (i + 1) (unit * 128) k n x y
            split (inl h) = absurd (omega (arith, h))
            split (inr h) = record {
              rest = q.rest / 128;
              is_rest = inl (omega (arith, h));
              within =
                  let parts : q.rest / 128 * (unit * 128) ≡ q.rest / 128 * 128 * unit = ap (λ u. q.rest / 128 * u) (mul_comm unit 128) ∙ sym (mul_assoc (q.rest / 128) 128 unit) in
                  let less = mul-le (q.rest / 128 * 128) unit q.rest unit (div-mul-le_self q.rest 128) (omega arith) in
                  let bound = q.within in
                  omega (arith, parts, less, bound);
              is = h.2;
            }

-- ---- the ends

-- a last group that is at its place ends a varint
pub last_read : (bytes : List ℕ) (i number unit g bits : ℕ) → IsVarintRead bytes i number unit → i < length bytes → g ≡ get_or bytes i 0 → g < 128 → bits ≡ g % 128
    → ((g ≡ 0) × (0 < i) ⊎ (i ≡ 9) × (g ≢ 1) → ⊥) → (number + bits * unit < 2 ^ 64) × (bytes ≡ varint (number + bits * unit) ++ drop (i + 1) bytes)
last_read bytes i number unit g bits r here is short low ok = (fits (cases_eq i 9), whole)
  where
    bits_is : bits ≡ g
    bits_is = low ∙ mod-eq_of_lt short

    is_rest : (g : ℕ) → ((g ≡ 0) × (0 < i) ⊎ (i ≡ 9) × (g ≢ 1) → ⊥) → IsRest i g
    is_rest zero f = elim (cases_lt 0 i) [ inl h ↦ absurd (f (inl (refl, h))) | inr h ↦ inr (omega (arith, h)) ]
    is_rest (suc h) f = inl (omega arith)

    fits : (i ≡ 9) ⊎ (i ≢ 9) → number + bits * unit < 2 ^ 64
    fits (inl e) = elim (cases_eq g 1) [
      | inl one ↦ let part : bits * unit ≡ unit = ap (λ b. b * unit) (bits_is ∙ one) ∙ one-mul unit in let bound = r.below in let last = unit_last i unit e r.unit_is in omega (arith, part, bound, last)
      | inr other ↦ absurd (ok (inr (e, other)))
    ]
    fits (inr apart) =
        let most = unit_before_last i r.left unit r.few apart r.unit_is in
        let part = mul-le bits unit 127 (2 ^ 56) (omega (arith, bits_is)) most in
        let bound = r.below in
        omega (arith, most, part, bound)

    ends : varint (number + bits * unit) ≡ take i bytes ++ g ∷ []
    ends = ap (λ b. varint (number + b * unit)) bits_is ∙ r.goes_on g (is_rest g ok) ∙ ap (λ gs. take i bytes ++ gs) (one_group r.left g short)

    whole : bytes ≡ varint (number + bits * unit) ++ drop (i + 1) bytes
    whole =
        sym (take-append-drop i bytes)
        ∙ ap (λ b. take i bytes ++ b) (one_dropped bytes i g here is)
        ∙ sym (append_assoc (take i bytes) (g ∷ []) (drop (i + 1) bytes))
        ∙ ap (λ v. v ++ drop (i + 1) bytes) (sym ends)

-- if all bytes are groups with more to come, a 01 would end a varint
pub all_varint_bytes_read : (bytes : List ℕ) (i number unit : ℕ) → IsVarintRead bytes i number unit → length bytes ≤ i → IsCutVarint bytes
all_varint_bytes_read bytes i number unit r past =
    let most = unit_at_most i r.left unit r.few r.unit_is in
    let bound = r.below in
    let one = one-mul unit in (
      number + 1 * unit,
      1 ∷ [],
      omega (arith, most, bound, one),
      omega arith,
      ap (λ b. b ++ 1 ∷ []) (sym (take_all i bytes past)) ∙ ap (λ gs. take i bytes ++ gs) (sym (one_group r.left 1 (omega arith))) ∙ sym (r.goes_on 1 (inl (omega arith))),
    )

-- no varint has a group that is misplaced
pub none_from_misplaced : (bytes : List ℕ) (i number unit g : ℕ) → IsVarintRead bytes i number unit → i < length bytes → g ≡ get_or bytes i 0 → (g ≡ 0) × (0 < i) ⊎ (i ≡ 9) × (g ≢ 1) → IsNoVarint bytes
none_from_misplaced bytes i number unit g r here is misplaced n x y fits e = by (r.only_so n x y fits e)
  where
    by : HasRest bytes i unit r.left n x y → ⊥
    by q = clash misplaced (first_group r.left q.rest g (drop (i + 1) bytes ++ x) y (ap (λ b. b ++ x) (sym (one_dropped bytes i g here is)) ∙ q.is)) q.is_rest
      where
        clash : (g ≡ 0) × (0 < i) ⊎ (i ≡ 9) × (g ≢ 1) → (q.rest < 128) × (g ≡ q.rest) ⊎ (128 ≤ q.rest) × (g ≡ 128 + q.rest % 128) × (drop (i + 1) bytes ++ x ≡ varint_groups r.left (q.rest / 128) ++ y) → IsRest i q.rest → ⊥
        clash (inl m) (inl h) (inl p) = absurd (omega (arith, m, h, p))
        clash (inl m) (inr h) (inl p) = absurd (omega (arith, m, h, p))
        clash (inl m) s (inr p) = absurd (omega (arith, m, p))
        clash (inr m) s (inr p) = absurd (omega (arith, m.0, p))
        clash (inr m) (inl h) (inl p) =
            let last = unit_last i unit m.0 r.unit_is in
            let two : q.rest < 2 = below_two q.rest unit n last q.within fits in
            m.1 (omega (arith, h, p, two))
        clash (inr m) (inr h) (inl p) =
            let last = unit_last i unit m.0 r.unit_is in
            let two : q.rest < 2 = below_two q.rest unit n last q.within fits in
            absurd (omega (arith, h, two))
