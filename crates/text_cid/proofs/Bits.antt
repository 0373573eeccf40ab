-- The bits of numbers, and lists of them in groups.
use Rattle.std.proofs.Common.{◌≡◌, ℕ, zero, suc, ◌+◌, ◌*◌, ◌/◌, ◌%◌, ◌^◌, ◌<◌, ◌≤◌, List, [], ◌∷◌, ◌++◌, length, take, drop, get_or, replicate, refl, sym, ap, ◌∙◌, subst, arith, append_assoc, append-nil, length-append, take-append-drop, length-take-le, length-drop, flat_map}
use Rattle.std.proofs.Math.Nat.{pow-succ'}
use Rattle.std.proofs.lemmas.Int.Digits.{number_push, number_lt}
use Rattle.std.specs.List.{AllByRecursion}
use Rattle.std.specs.Int.Digits.{AllBelowBase, number_from_digits, number_from_digits_after}
use Rattle.text_cid.specs.Rfc4648.{bits, groups}

-- ---- lists

pub all_append : (P : ℕ → Type 0) (xs ys : List ℕ) → AllByRecursion P xs → AllByRecursion P ys → AllByRecursion P (xs ++ ys)
all_append P [] ys h k = k
all_append P (x ∷ xs) ys h k = (h.0, all_append P xs ys h.1 k)

pub all_split : (P : ℕ → Type 0) (xs ys : List ℕ) → AllByRecursion P (xs ++ ys) → AllByRecursion P xs × AllByRecursion P ys
all_split P [] ys h = (tt, h)
all_split P (x ∷ xs) ys h = let k = all_split P xs ys h.1 in ((h.0, k.0), k.1)

pub all_push : (P : ℕ → Type 0) (xs : List ℕ) (x : ℕ) → AllByRecursion P xs → P x → AllByRecursion P (xs ++ x ∷ [])
all_push P xs x h k = all_append P xs (x ∷ []) h (k, tt)

-- fronts of one length are the same, and so is what follows
pub same_front : (xs ys v w : List ℕ) → length xs ≡ length ys → xs ++ v ≡ ys ++ w → (xs ≡ ys) × (v ≡ w)
same_front [] [] v w l e = (refl, e)
same_front [] (y ∷ ys) v w l e = absurd (omega (arith, l))
same_front (x ∷ xs) [] v w l e = absurd (omega (arith, l))
same_front (x ∷ xs) (y ∷ ys) v w l e =
    let first : x ≡ y = cc e in
    let others : xs ++ v ≡ ys ++ w = cc e in
    let k = same_front xs ys v w (omega (arith, l)) others in
    ((λ i. first i ∷ k.0 i), k.1)

-- ---- the bits of a number

pub length-bits : (n x : ℕ) → length (bits n x) ≡ n
unfolding bits
length-bits zero x = refl
length-bits (suc n) x = omega (arith, length-append (bits n (x / 2)) (x % 2 ∷ []), length-bits n (x / 2))

pub bits_below : (n x : ℕ) → AllBelowBase 2 (bits n x)
unfolding bits
bits_below zero x = tt
bits_below (suc n) x = all_push (λ d. d < 2) (bits n (x / 2)) (x % 2) (bits_below n (x / 2)) (omega arith)

-- the bits of a number are those of its upper part, and then those of the lower
pub join : (m n k a b x : ℕ) → k ≡ m + n → x ≡ a * 2 ^ n + b → b < 2 ^ n → bits k x ≡ bits m a ++ bits n b
unfolding bits
join m zero k a b x ek ex h =
    let whole : k ≡ m = omega arith in
    let upper : x ≡ a = omega arith in
    rw (whole, upper) (sym (append-nil (bits m a)))
join m (suc n) k a b x ek ex h =
    let power : 2 ^ suc n ≡ 2 * 2 ^ n = pow-succ' 2 n in
    let product : a * 2 ^ suc n ≡ a * (2 * 2 ^ n) = ap (λ u. a * u) power in
    let whole : k ≡ suc (m + n) = omega arith in
    let upper : x / 2 ≡ a * 2 ^ n + b / 2 = omega arith in
    let lowest : x % 2 ≡ b % 2 = omega arith in
    let small : b / 2 < 2 ^ n = omega arith in
    ap (λ j. bits j x) whole ∙ (λ i. join m n (m + n) a (b / 2) (x / 2) refl upper small i ++ lowest i ∷ []) ∙ append_assoc (bits m a) (bits n (b / 2)) (b % 2 ∷ [])

-- bits are those of the number that they write
pub bits_of_number : (ys : List ℕ) (m a k : ℕ) → AllBelowBase 2 ys → k ≡ m + length ys → bits k (number_from_digits_after 2 a ys) ≡ bits m a ++ ys
unfolding bits
bits_of_number [] m a k h e =
    let whole : k ≡ m = omega (arith, e) in
    rw whole (sym (append-nil (bits m a)))
bits_of_number (y ∷ ys) m a k h e =
    let upper : (a * 2 + y) / 2 ≡ a = omega (arith, h.0) in
    let lowest : (a * 2 + y) % 2 ≡ y = omega (arith, h.0) in
    bits_of_number ys (suc m) (a * 2 + y) k h.1 (omega (arith, e)) ∙ (λ i. (bits m (upper i) ++ lowest i ∷ []) ++ ys) ∙ append_assoc (bits m a) (y ∷ []) ys

pub bits_of_all : (w : ℕ) (ys : List ℕ) → AllBelowBase 2 ys → length ys ≡ w → bits w (number_from_digits 2 ys) ≡ ys
unfolding bits
bits_of_all w ys h e = bits_of_number ys 0 0 w h (omega (arith, e))

pub number_of_bits : (n x : ℕ) → x < 2 ^ n → number_from_digits 2 (bits n x) ≡ x
unfolding bits
number_of_bits zero x h = omega arith
number_of_bits (suc n) x h =
    let power : 2 ^ suc n ≡ 2 * 2 ^ n = pow-succ' 2 n in
    let upper = number_of_bits n (x / 2) (omega arith) in
    number_push 2 (bits n (x / 2)) (x % 2) ∙ omega (arith, upper)

pub same_number : (n x y : ℕ) → x < 2 ^ n → y < 2 ^ n → bits n x ≡ bits n y → x ≡ y
same_number n x y h k e = sym (number_of_bits n x h) ∙ ap (number_from_digits 2) e ∙ number_of_bits n y k

replicate_push : (n x : ℕ) → replicate n x ++ x ∷ [] ≡ x ∷ replicate n x
replicate_push zero x = refl
replicate_push (suc n) x = ap (λ xs. x ∷ xs) (replicate_push n x)

pub bits_of_zero : (n : ℕ) → bits n 0 ≡ replicate n 0
unfolding bits
bits_of_zero zero = refl
bits_of_zero (suc n) = ap (λ b. b ++ 0 ∷ []) (bits_of_zero n) ∙ replicate_push n 0

-- ---- the bits of many numbers

pub length-all_bits : (w : ℕ) (vs : List ℕ) → length (flat_map (bits w) vs) ≡ length vs * w
length-all_bits w [] = omega arith
length-all_bits w (v ∷ vs) = omega (arith, length-append (bits w v) (flat_map (bits w) vs), length-bits w v, length-all_bits w vs)

pub all_bits_below : (w : ℕ) (vs : List ℕ) → AllBelowBase 2 (flat_map (bits w) vs)
all_bits_below w [] = tt
all_bits_below w (v ∷ vs) = all_append (λ d. d < 2) (bits w v) (flat_map (bits w) vs) (bits_below w v) (all_bits_below w vs)

-- numbers with the same bits are the same
pub same_from_bits : (w : ℕ) (vs us : List ℕ) → 0 < w → AllBelowBase (2 ^ w) vs → AllBelowBase (2 ^ w) us → flat_map (bits w) vs ≡ flat_map (bits w) us → vs ≡ us
same_from_bits w [] [] some h k e = refl
same_from_bits w [] (u ∷ us) some h k e = absurd (omega (arith, ap length e, length-append (bits w u) (flat_map (bits w) us), length-bits w u))
same_from_bits w (v ∷ vs) [] some h k e = absurd (omega (arith, ap length e, length-append (bits w v) (flat_map (bits w) vs), length-bits w v))
same_from_bits w (v ∷ vs) (u ∷ us) some h k e =
    let parts = same_front (bits w v) (bits w u) (flat_map (bits w) vs) (flat_map (bits w) us) (length-bits w v ∙ sym (length-bits w u)) e in
    let first = same_number w v u h.0 k.0 parts.0 in
    let others = same_from_bits w vs us some h.1 k.1 parts.1 in
    λ i. first i ∷ others i

-- ---- groups

pub bits_of_groups : (w n : ℕ) (b : List ℕ) → length b ≡ n * w → AllBelowBase 2 b → flat_map (bits w) (groups w n b) ≡ b
unfolding groups
bits_of_groups w zero [] l h = refl
bits_of_groups w zero (x ∷ b) l h = absurd (omega (arith, l))
bits_of_groups w (suc n) b l h =
    let fits : w ≤ length b = omega (arith, l) in
    let parts = all_split (λ d. d < 2) (take w b) (drop w b) (subst (AllBelowBase 2) (sym (take-append-drop w b)) h) in
    let first = bits_of_all w (take w b) parts.0 (length-take-le w b fits) in
    let others = bits_of_groups w n (drop w b) (omega (arith, l, length-drop w b)) parts.1 in
    (λ i. first i ++ others i) ∙ take-append-drop w b

pub groups_below : (w n : ℕ) (b : List ℕ) → length b ≡ n * w → AllBelowBase 2 b → AllBelowBase (2 ^ w) (groups w n b)
unfolding groups
groups_below w zero b l h = tt
groups_below w (suc n) b l h =
    let fits : w ≤ length b = omega (arith, l) in
    let parts = all_split (λ d. d < 2) (take w b) (drop w b) (subst (AllBelowBase 2) (sym (take-append-drop w b)) h) in
    let first = subst (λ k. number_from_digits 2 (take w b) < 2 ^ k) (length-take-le w b fits) (number_lt 2 (take w b) parts.0) in
    (first, groups_below w n (drop w b) (omega (arith, l, length-drop w b)) parts.1)

-- what holds at each place
pub all_from_each : (P : ℕ → Type 0) (xs : List ℕ) → ((i : ℕ) → P (get_or xs i 0)) → AllByRecursion P xs
all_from_each P [] h = tt
all_from_each P (x ∷ xs) h = (h 0, all_from_each P xs (λ i. h (suc i)))
