-- The first bytes are taken, one after the other.
use Rattle.std.proofs.Common.{◌≡◌, ℕ, zero, suc, ◌+◌, ◌≤◌, List, [], ◌∷◌, ◌++◌, length, length-append, take, append_assoc, append-nil, refl, sym, ap, ◌∙◌, subst, arith, Option, None, Some, IfSome}
use Rattle.std.proofs.Math.Seq.{take-length}
use Rattle.std.proofs.lemmas.List.{take-append-le}
use Rattle.program_inspect.specs.Front.{TakesByte, TakesFront}

-- the first `n` bytes were taken
abbrev pub TookSome : ℕ → List ℕ → List ℕ → Option (List ℕ) → Type 0
TookSome n b front left = (rest : List ℕ) × (b ≡ front ++ rest) × (left ≡ Some rest) × (length front ≡ n)

pub took_more : (known left new : Option (List ℕ)) (n x : ℕ) (o : Option ℕ) (front : List ℕ) → o ≡ Some x → IfSome known (λ b. TookSome n b front left) → IfSome left (λ b. TakesByte b o new) → IfSome known (λ b. TookSome (n + 1) b (front ++ x ∷ []) new)
took_more None left new n x o front is h k = tt
took_more (Some b) left new n x o front is h k =
    let w = subst (λ p. TakesByte h.0 p new) is (subst (λ l. IfSome l (λ r. TakesByte r o new)) h.2 k) in
    (w.0, h.1 ∙ ap (λ r. front ++ r) w.1 ∙ sym (append_assoc front (x ∷ []) w.0), w.2, length-append front (x ∷ []) ∙ ap (λ m. m + 1) h.3)

first_of : (n : ℕ) (front rest : List ℕ) → length front ≡ n → front ≡ take n (front ++ rest)
first_of n front rest h = sym (ap (λ m. take m (front ++ rest)) (sym h) ∙ take-append-le (length front) front rest (omega arith) ∙ take-length front)

pub took_all : (known left : Option (List ℕ)) (n most : ℕ) (front : List ℕ) → n ≡ most → IfSome known (λ b. TookSome n b front left) → IfSome known (λ b. TakesFront most b front left)
took_all None left n most front is h = tt
took_all (Some b) left n most front is h = (h.0, h.1, h.2, first_of most front h.0 (h.3 ∙ is) ∙ ap (take most) (sym h.1))

whole_of : (n : ℕ) (front : List ℕ) → length front ≤ n → front ≡ take n front
whole_of zero [] le = refl
whole_of (suc n) [] le = refl
whole_of zero (x ∷ xs) le = absurd (omega (arith, le))
whole_of (suc n) (x ∷ xs) le = ap (λ l. x ∷ l) (whole_of n xs (omega (arith, le)))

pub took_whole : (known left new : Option (List ℕ)) (n most : ℕ) (o : Option ℕ) (front : List ℕ) → o ≡ None → n ≤ most → IfSome known (λ b. TookSome n b front left) → IfSome left (λ b. TakesByte b o new) → IfSome known (λ b. TakesFront most b front new)
took_whole None left new n most o front is le h k = tt
took_whole (Some b) left new n most o front is le h k =
    let w = subst (λ p. TakesByte h.0 p new) is (subst (λ l. IfSome l (λ r. TakesByte r o new)) h.2 k) in
    let all : b ≡ front = h.1 ∙ ap (λ r. front ++ r) w.0 ∙ append-nil front in
    ([], all ∙ sym (append-nil front), w.1, whole_of most front (omega (arith, le, h.3)) ∙ ap (take most) (sym all))
