-- The bytes left after a read.
use Rattle.std.proofs.Common.{◌≡◌, ℕ, ◌+◌, ◌<◌, List, [], ◌++◌, length, take, drop, Option, None, Some, IfSome, sym, ap, ◌∙◌, subst, arith}
use Rattle.std.proofs.lemmas.List.{take-append-drop, drop-drop}
use Rattle.std.specs.Option.{option_map}
use Rattle.std.specs.Io.KnownBytes.{Consumes, IsAtEnd}

pub went_on : (known : Option (List ℕ)) (place n next : ℕ) (buf : List ℕ) → next ≡ place + n → IfSome known (λ b. (take n buf ≡ take n (drop place b)) × (n ≡ 0 → 0 < length buf → drop place b ≡ [])) → Consumes (option_map (drop place) known) (option_map (drop next) known) (take n buf) × (n ≡ 0 → 0 < length buf → IsAtEnd (option_map (drop next) known))
went_on None place n next buf is h = (tt, λ none room. tt)
went_on (Some b) place n next buf is h =
    let following : drop n (drop place b) ≡ drop next b = drop-drop n place b ∙ ap (λ p. drop p b) (sym is) in (
      sym (take-append-drop n (drop place b)) ∙ (ap (λ f. f ++ drop n (drop place b)) (sym h.0) ∙ ap (λ r. take n buf ++ r) following),
      λ none room. let there : place ≡ next = omega arith in subst (λ p. drop p b ≡ []) there (h.1 none room),
    )
