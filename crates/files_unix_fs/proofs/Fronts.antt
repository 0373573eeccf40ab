-- The parts at the front of bytes.
use Rattle.std.proofs.Common.{◌≡◌, ◌⊎◌, inl, inr, Bool, true, false, ℕ, zero, suc, ◌+◌, ◌-◌, ◌*◌, ◌%◌, ◌^◌, ◌==◌, ◌<◌, ◌≤◌, List, [], ◌∷◌, length, length-drop, take, drop, nat_lt, if◌then◌else◌, Ok, Err, refl, sym, ap, ◌∙◌, subst, arith}
use Rattle.std.proofs.lemmas.Bool.{cases_lt}
use Rattle.std.proofs.lemmas.Bool.Decides.{nat_tests}
use Rattle.std.proofs.Math.Nat.{pow-le-pow_right, pow-succ'}
use Rattle.files_unix_fs.specs.declared.error.UnixFsCause.{UnixFsCause}
use Rattle.files_unix_fs.specs.declared.error.UnixFsCause.TheVariants.{Truncated, InvalidVarint, UnexpectedField}
use Rattle.files_unix_fs.specs.Fields.{Front, after, Value, number, bytes, groups_of, varint_of, bytes_of, held_of, value_of, field_of}

-- ---- tests

pub nat_lt_yes : (a b : ℕ) → a < b → nat_lt a b ≡ true
nat_lt_yes a b h = grind (arith, nat_tests)

pub nat_lt_no : (a b : ℕ) → b ≤ a → nat_lt a b ≡ false
nat_lt_no a b h = grind (arith, nat_tests)

pub test_false : {P : Type 0} (b : Bool) → b ≡ false → (P → b ≡ true) → P → ⊥
test_false b f t p = let clash : true ≡ false = sym (t p) ∙ f in absurd (cc clash)

-- ---- groups

abbrev pub with_group : ℕ → ℕ → List ℕ → Front ℕ
with_group group n rest = Ok (group % 128 + 128 * n, rest)

abbrev pub FitsThere : ℕ → ℕ → Type 0
FitsThere more group = (more ≡ 0) × (1 < group) → ⊥

pub small_below : (more group : ℕ) → FitsThere more group → group < 128 → group < 2 * 128 ^ more
small_below zero group fit low = elim (cases_lt 1 group) [ inl h ↦ absurd (fit (refl, h)) | inr h ↦ omega (arith, h) ]
small_below (suc more) group fit low = omega (arith, low, pow-succ' 128 more, pow_some more)
  where
    pow_some : (k : ℕ) → 1 ≤ 128 ^ k
    pow_some k = pow-le-pow_right {n = 128} (omega arith) {i = 0} {j = k} (omega arith)

pub group_below : (more group n : ℕ) → FitsThere more group → 128 ≤ group → n < 2 * 128 ^ (more - 1) → group % 128 + 128 * n < 2 * 128 ^ more
group_below zero group n fit high below = absurd (fit (refl, omega (arith, high)))
group_below (suc more) group n fit high below = omega (arith, subst (λ k. n < 2 * 128 ^ k) (less more) below, pow-succ' 128 more)
  where
    less : (k : ℕ) → suc k - 1 ≡ k
    less k = omega arith

pub fits_below : (more n : ℕ) → more ≤ 9 → n < 2 * 128 ^ more → n < 2 ^ 64
fits_below more n few below = omega (arith, below, pow-le-pow_right {n = 128} (omega arith) {i = more} {j = 9} few)

-- ---- the rest is shorter

-- if two reads succeed one after the other, each of them does
pub after_split : {A B : Type 0} (r : Front A) (f : A → List ℕ → Front B) (b : B) (left : List ℕ) → after r f ≡ Ok (b, left) → (a : A) × (rest : List ℕ) × (r ≡ Ok (a, rest)) × (f a rest ≡ Ok (b, left))
after_split (Ok (a, rest)) f b left e = (a, rest, refl, e)
after_split (Err cause) f b left e = absurd (cc e)

pub if_split : {A : Type 0} (test : Bool) (x y z : Front A) → (if test then x else y) ≡ z → ((test ≡ true) × (x ≡ z)) ⊎ ((test ≡ false) × (y ≡ z))
if_split true x y z e = inl (refl, e)
if_split false x y z e = inr (refl, e)

pub ok_rest : {A : Type 0} (a b : A) (x y : List ℕ) → ◌≡◌ {A = Front A} (Ok (a, x)) (Ok (b, y)) → x ≡ y
ok_rest {A = A} a b x y e = let p : ◌≡◌ {A = A × List ℕ} (a, x) (b, y) = cc e in ap (λ q. q.1) p

pub no_ok : {A : Type 0} (cause : UnixFsCause) (b : A) (y : List ℕ) → ◌≡◌ {A = Front A} (Err cause) (Ok (b, y)) → ⊥
no_ok cause b y e = cc e

pub groups_shorter : (more : ℕ) (b : List ℕ) (n : ℕ) (rest : List ℕ) → groups_of more b ≡ Ok (n, rest) → length rest < length b
unfolding groups_of
groups_shorter more [] n rest e = absurd (no_ok Truncated n rest e)
groups_shorter zero (g ∷ b) n rest e = elim (if_split (nat_lt g 2) (Ok (g, b)) (Err InvalidVarint) (Ok (n, rest)) e) [
  | inl h ↦ omega (arith, ap length (ok_rest g n b rest h.1))
  | inr h ↦ absurd (no_ok InvalidVarint n rest h.1)
]
groups_shorter (suc more) (g ∷ b) n rest e = elim (if_split (nat_lt g 128) (Ok (g, b)) (after (groups_of more b) (with_group g)) (Ok (n, rest)) e) [
  | inl h ↦ omega (arith, ap length (ok_rest g n b rest h.1))
  | inr h ↦ let k = after_split (groups_of more b) (with_group g) n rest h.1 in
      omega (arith, groups_shorter more b k.0 k.1 k.2, ap length (ok_rest _ n k.1 rest k.3))
]

pub varint_shorter : (b : List ℕ) (n : ℕ) (rest : List ℕ) → varint_of b ≡ Ok (n, rest) → length rest < length b
unfolding varint_of
varint_shorter b n rest e = groups_shorter 9 b n rest e

pub bytes_left : (count : ℕ) (b : List ℕ) (s rest : List ℕ) → bytes_of count b ≡ Ok (s, rest) → length rest ≤ length b
bytes_left count b s rest e = elim (if_split (nat_lt (length b) count) (Err Truncated) (Ok (take count b, drop count b)) (Ok (s, rest)) e) [
  | inl h ↦ absurd (no_ok Truncated s rest h.1)
  | inr h ↦ omega (arith, ap length (ok_rest (take count b) s (drop count b) rest h.1), length-drop count b)
]

pub held_left : (count : ℕ) (b : List ℕ) (v : Value) (rest : List ℕ) → held_of count b ≡ Ok (v, rest) → length rest ≤ length b
held_left count b v rest e =
    let k = after_split (bytes_of count b) (λ s left. Ok (bytes s, left)) v rest e in
    omega (arith, bytes_left count b k.0 k.1 k.2, ap length (ok_rest (bytes k.0) v k.1 rest k.3))

pub value_left : (tag : ℕ) (b : List ℕ) (v : Value) (rest : List ℕ) → value_of tag b ≡ Ok (v, rest) → length rest ≤ length b
unfolding value_of
value_left tag b v rest e = elim (if_split (tag % 8 == 0) (after (varint_of b) (λ n left. Ok (number n, left))) _ (Ok (v, rest)) e) [
  | inl h ↦ let k = after_split (varint_of b) (λ n left. Ok (number n, left)) v rest h.1 in
      omega (arith, varint_shorter b k.0 k.1 k.2, ap length (ok_rest (number k.0) v k.1 rest k.3))
  | inr h ↦ elim (if_split (tag % 8 == 1) (held_of 8 b) _ (Ok (v, rest)) h.1) [
    | inl i ↦ held_left 8 b v rest i.1
    | inr i ↦ elim (if_split (tag % 8 == 2) (after (varint_of b) held_of) _ (Ok (v, rest)) i.1) [
      | inl j ↦ let k = after_split (varint_of b) held_of v rest j.1 in
          omega (arith, varint_shorter b k.0 k.1 k.2, held_left k.0 k.1 v rest k.3)
      | inr j ↦ elim (if_split (tag % 8 == 5) (held_of 4 b) (Err (UnexpectedField tag)) (Ok (v, rest)) j.1) [
        | inl l ↦ held_left 4 b v rest l.1
        | inr l ↦ absurd (no_ok (UnexpectedField tag) v rest l.1)
      ]
    ]
  ]
]

pub field_shorter : (b : List ℕ) (f : ℕ × Value) (rest : List ℕ) → field_of b ≡ Ok (f, rest) → length rest < length b
unfolding field_of
field_shorter b f rest e =
    let k = after_split (varint_of b) (λ tag inner. after (value_of tag inner) (tagged tag)) f rest e in
    let l = after_split (value_of k.0 k.1) (tagged k.0) f rest k.3 in
    omega (arith, varint_shorter b k.0 k.1 k.2, value_left k.0 k.1 l.0 l.1 l.2, ap length (ok_rest (k.0, l.0) f l.1 rest l.3))
  where
    tagged : ℕ → Value → List ℕ → Front (ℕ × Value)
    tagged tag value left = Ok ((tag, value), left)
