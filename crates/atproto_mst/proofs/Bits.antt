-- Leading zeros, and shared fronts, from an index on.
use Rattle.std.proofs.Common.{◌≡◌, ℕ, ◌+◌, ◌≤◌, List, [], ◌∷◌, length, drop, refl, ap, ◌∙◌, arith}
use Rattle.std.specs.Prelude.{min}
use Rattle.std.proofs.lemmas.Bool.{cases_lt}
use Rattle.std.proofs.lemmas.List.{drop_all}
use Rattle.std.proofs.Common.{inl, inr}
use Rattle.atproto_mst.specs.Trees.{shared}

shared_none : (s : List ℕ) → shared s [] ≡ 0
shared_none [] = refl
shared_none (b ∷ bs) = refl

pub shared_first_over : (s t : List ℕ) (i : ℕ) → length s ≤ i → shared s t ≡ i + shared (drop i s) (drop i t) → i ≡ shared s t
shared_first_over s t i l inv = let over : shared (drop i s) (drop i t) ≡ 0 = ap (λ x. shared x (drop i t)) (drop_all i s l) in omega (arith, inv, over)

pub shared_second_over : (s t : List ℕ) (i : ℕ) → length t ≤ i → shared s t ≡ i + shared (drop i s) (drop i t) → i ≡ shared s t
shared_second_over s t i l inv = let over : shared (drop i s) (drop i t) ≡ 0 = ap (λ x. shared (drop i s) x) (drop_all i t l) ∙ shared_none (drop i s) in omega (arith, inv, over)

pub shared_over : (s t : List ℕ) (most i : ℕ) → most ≡ i → most ≡ min (length s) (length t) → shared s t ≡ i + shared (drop i s) (drop i t) → most ≡ shared s t
shared_over s t most i e m inv = elim (cases_lt (length s) (length t)) [
  | inl h ↦ e ∙ shared_first_over s t i (omega arith) inv
  | inr h ↦ e ∙ shared_second_over s t i (omega arith) inv
]
