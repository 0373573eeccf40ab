-- Each symbol of an alphabet has one index.
use Rattle.std.proofs.Common.{◌≡◌, inl, inr, ℕ, zero, suc, ◌<◌, Bool, true, false, not, ◌&&◌, List, [], ◌∷◌, length, map, refl, sym, ap, ◌∙◌, arith, eq-eqb, ◌==◌, slice_index, IsTrue, Contains, slice_index_or, true≢false, eqb-true}
use Rattle.std.proofs.lemmas.Bool.{cases_lt, cases_eq}
use Rattle.std.specs.Int.Digits.{AllBelowBase}
use Rattle.text_cid.specs.Alphabets.{all_below, is_new, is_alphabet, IsNoSymbol}

both : (a b : Bool) → (a && b) ≡ true → (a ≡ true) × (b ≡ true)
both true b e = (refl, e)
both false b e = absurd (cc e)

at_each : (p : ℕ → Bool) (n i : ℕ) → all_below p n ≡ true → i < n → p i ≡ true
at_each p zero i e h = absurd (omega arith)
at_each p (suc n) i e h = elim (cases_eq i n) [
  | inl same ↦ ap p same ∙ (both (p n) (all_below p n) e).0
  | inr other ↦ at_each p n i (both (p n) (all_below p n) e).1 (omega arith)
]

new_symbol : (s : List ℕ) (n i j : ℕ) → is_alphabet n s ≡ true → i < n → j < i → slice_index s j ≡ slice_index s i → ⊥
new_symbol s n i j a h l e =
    let all = (both (length s == n) (all_below (is_new s) n) a).1 in
    let new = at_each (λ k. not (slice_index s k == slice_index s i)) i j (at_each (is_new s) n i all h) l in
    true≢false (sym new ∙ ap not (eq-eqb (slice_index s j) (slice_index s i) e))

pub same_place : (s : List ℕ) (n i j : ℕ) → IsTrue (is_alphabet n s) → i < n → j < n → slice_index s i ≡ slice_index s j → i ≡ j
same_place s n i j a h k e = elim (cases_lt i j) [
  | inl l ↦ absurd (new_symbol s n j i a k l e)
  | inr above ↦ elim (cases_lt j i) [
    | inl l ↦ absurd (new_symbol s n i j a h l (sym e))
    | inr below ↦ omega arith
  ]
]

-- numbers with the same symbols are the same
pub same_from_symbols : (s : List ℕ) (n : ℕ) (vs us : List ℕ) → IsTrue (is_alphabet n s) → AllBelowBase n vs → AllBelowBase n us → map (slice_index s) vs ≡ map (slice_index s) us → vs ≡ us
same_from_symbols s n [] [] a h k e = refl
same_from_symbols s n [] (u ∷ us) a h k e = absurd (cc e)
same_from_symbols s n (v ∷ vs) [] a h k e = absurd (cc e)
same_from_symbols s n (v ∷ vs) (u ∷ us) a h k e =
    let symbol : slice_index s v ≡ slice_index s u = cc e in
    let others : map (slice_index s) vs ≡ map (slice_index s) us = cc e in
    let first = same_place s n v u a h.0 k.0 symbol in
    let rest = same_from_symbols s n vs us a h.1 k.1 others in
    λ i. first i ∷ rest i

pub alphabet_length : (s : List ℕ) (n : ℕ) → IsTrue (is_alphabet n s) → length s ≡ n
alphabet_length s n a = eqb-true (length s) n (both (length s == n) (all_below (is_new s) n) a).0

-- a symbol of numbers below the number of symbols is one
pub no_other_symbol : (s : List ℕ) (vs : List ℕ) (x : ℕ) → AllBelowBase (length s) vs → Contains (map (slice_index s) vs) x → IsNoSymbol s x → ⊥
no_other_symbol s [] x h c n = omega (arith, c.1)
no_other_symbol s (v ∷ vs) x h c n = by (no_other_symbol s vs x h.1) c.0 c.1 c.2
  where
    by : (Contains (map (slice_index s) vs) x → IsNoSymbol s x → ⊥) → (k : ℕ) → k < length (map (slice_index s) (v ∷ vs)) → slice_index_or (map (slice_index s) (v ∷ vs)) k x ≡ x → ⊥
    by others zero l e = n v h.0 e
    by others (suc k) l e = others (k, omega (arith, l), e) n
