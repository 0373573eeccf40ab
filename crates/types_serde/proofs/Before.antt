-- Keys that are told apart by the first byte in which they differ.
use Rattle.std.proofs.Common.{◌≡◌, inl, inr, ℕ, zero, suc, ◌<◌, List, ◌∷◌, [], ◌++◌, length, get_or, drop, false, refl, arith, ap, is_lt}
use Rattle.std.proofs.lemmas.Cmp.{ranked}
use Rattle.std.specs.declared.cmp.Ordering.{Ordering}
use Rattle.std.specs.declared.cmp.Ordering.TheVariants.{Less, Equal, Greater}
use Rattle.std.specs.Ordering.{nat_cmp, ordering_then}
use Rattle.ipld_tree.specs.Key.{bytes_cmp}
use Rattle.types_serde.specs.Holds.{StandsBefore}

-- bytes that are equal up to an index, where the first has the lesser byte
pub before_at : (i : ℕ) (a b : List ℕ) → ((k d : ℕ) → k < i → get_or a k d ≡ get_or b k d) → i < length a → i < length b → get_or a i 0 < get_or b i 0 → StandsBefore a b
before_at i [] b same p q low = absurd (omega (arith, p))
before_at i (m ∷ a) [] same p q low = absurd (omega (arith, q))
before_at zero (m ∷ a) (n ∷ b) same p q low = inl low
before_at (suc i) (m ∷ a) (n ∷ b) same p q low = inr (same 0 0 (omega arith), before_at i a b (λ k d h. same (suc k) d (omega (arith, h))) (omega (arith, p)) (omega (arith, q)) low)

-- a byte that is not less than another leaves the order to what follows, or decides it
not_less : (m n : ℕ) (o rest : Ordering) → o ≡ nat_cmp n m → m < n → is_lt (ordering_then o rest) ≡ false
not_less m n Less rest e low = absurd (omega (arith, ranked n m Less e, low))
not_less m n Equal rest e low = absurd (omega (arith, ranked n m Equal e, low))
not_less m n Greater rest e low = refl

alike : (m n : ℕ) (o rest : Ordering) → o ≡ nat_cmp n m → m ≡ n → is_lt rest ≡ false → is_lt (ordering_then o rest) ≡ false
alike m n Less rest e same h = absurd (omega (arith, ranked n m Less e, same))
alike m n Equal rest e same h = h
alike m n Greater rest e same h = refl

-- whatever comes after them, the second is not before the first
pub not_before : (a b x y : List ℕ) → StandsBefore a b → is_lt (bytes_cmp (b ++ y) (a ++ x)) ≡ false
not_before [] b x y h = absurd h
not_before (m ∷ a) [] x y h = absurd h
not_before (m ∷ a) (n ∷ b) x y (inl low) = not_less m n (nat_cmp n m) (bytes_cmp (b ++ y) (a ++ x)) refl low
not_before (m ∷ a) (n ∷ b) x y (inr h) = alike m n (nat_cmp n m) (bytes_cmp (b ++ y) (a ++ x)) refl h.0 (not_before a b x y h.1)

-- and they are not the same
pub differ : (a b : List ℕ) → StandsBefore a b → a ≡ b → ⊥
differ [] b h e = h
differ (m ∷ a) [] h e = h
differ (m ∷ a) (n ∷ b) (inl low) e = omega (arith, low, ap (λ xs. get_or xs 0 0) e)
differ (m ∷ a) (n ∷ b) (inr h) e = differ a b h.1 (ap (drop 1) e)
