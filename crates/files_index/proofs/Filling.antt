-- A room that is filled, one read after the other.
use Rattle.std.proofs.Common.{◌≡◌, ℕ, ◌+◌, ◌-◌, ◌^◌, ◌<◌, ◌≤◌, min, List, [], ◌++◌, length, take, drop, Option, None, Some, IfSome, sym, ap, ◌∙◌, arith}
use Rattle.std.proofs.lemmas.List.{take-append-le, drop-drop, length-take, length-drop}
use Rattle.std.proofs.Math.Seq.{take-add, take-append-add}
use borrow.Rule.Slice.PartMut.{put_mid, post_of}

pub filled_on : (b room sub : List ℕ) (place filled next n k : ℕ) → filled ≤ length room → n ≤ length sub → next ≡ place + filled → take filled room ≡ take filled (drop place b) → take n sub ≡ take n (drop next b) → take (filled + n) (put_mid filled k room sub) ≡ take (filled + n) (drop place b)
filled_on b room sub place filled next n k within fits is old new =
    let long : length (take filled room) + n ≡ filled + n = omega (arith, length-take filled room) in
    let both : take (filled + n) (take filled room ++ (sub ++ post_of filled k room)) ≡ take filled room ++ take n (sub ++ post_of filled k room) =
    ap (λ m. take m (take filled room ++ (sub ++ post_of filled k room))) (sym long) ∙ take-append-add (take filled room) (sub ++ post_of filled k room) n in
    let first : take n (sub ++ post_of filled k room) ≡ take n (drop filled (drop place b)) =
    take-append-le n sub (post_of filled k room) fits ∙ (new ∙ ap (take n) (ap (λ p. drop p b) is ∙ sym (drop-drop filled place b))) in
    (both ∙ (ap (λ l. l ++ take n (sub ++ post_of filled k room)) old ∙ ap (λ l. take filled (drop place b) ++ l) first)) ∙ sym (take-add filled n (drop place b))

pub filled_more : (known : Option (List ℕ)) (place filled next n k : ℕ) (room sub : List ℕ) → filled ≤ length room → n ≤ length sub → next ≡ min (place + filled) (2 ^ 64 - 1) → 0 < n → IfSome known (λ b. length b < 2 ^ 64) → IfSome known (λ b. take filled room ≡ take filled (drop place b)) → IfSome known (λ b. (take n sub ≡ take n (drop next b)) × (n ≡ 0 → 0 < length sub → drop next b ≡ [])) → IfSome known (λ b. take (filled + n) (put_mid filled k room sub) ≡ take (filled + n) (drop place b))
filled_more None place filled next n k room sub within fits is some below old new = tt
filled_more (Some b) place filled next n k room sub within fits is some below old new =
    let same : length (take n sub) ≡ length (take n (drop next b)) = ap length new.0 in
    let there : next ≡ place + filled = omega (arith, same, length-take n sub, length-take n (drop next b), length-drop next b) in
    filled_on b room sub place filled next n k within fits there old new.0

pub not_filled : (known : Option (List ℕ)) (place filled next n : ℕ) (room sub after : List ℕ) → filled < length room → length after ≡ length room → length sub ≡ length room - filled → next ≡ min (place + filled) (2 ^ 64 - 1) → n ≡ 0 → IfSome known (λ b. (take n sub ≡ take n (drop next b)) × (n ≡ 0 → 0 < length sub → drop next b ≡ [])) → IfSome known (λ b. length b < place + length after)
not_filled None place filled next n room sub after more same rest is none end = tt
not_filled (Some b) place filled next n room sub after more same rest is none end =
    let gone : length (drop next b) ≡ 0 = ap length (end.1 none (omega arith)) in
    omega (arith, gone, length-drop next b)
