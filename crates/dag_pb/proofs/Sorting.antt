-- Whether links are sorted.
use Rattle.std.proofs.Common.{◌≡◌, ℕ, ◌+◌, ◌<◌, List, [], ◌∷◌, length, map, Bool, true, false, not, MatchBool, get_or, refl, sym, ◌∙◌, arith}
use Rattle.std.proofs.lemmas.List.{get_or-map, length-map}
use Rattle.std.specs.List.{AllAdjacentBelow, IsAllAdjacentAnswer}
use Rattle.std.specs.Ordering.{nat_cmp, is_lt}
use Rattle.std.specs.Cmp.Lexicographic.{slice_cmp}
use Rattle.dag_pb.specs.Node.{LinkParts}
use Rattle.dag_pb.specs.Reads.{link_of}
use Rattle.dag_pb.specs.Spelling.{sort_name, AreSorted}
use Rattle.dag_pb.specs.declared.link.PbLink.{PbLink}

-- the second does not come before the first
abbrev pub ascend : LinkParts → LinkParts → Bool
ascend link next = not (is_lt (slice_cmp nat_cmp (sort_name next) (sort_name link)))

abbrev pub links_ascend : PbLink → PbLink → Bool
links_ascend link next = ascend (link_of link) (link_of next)

not_less : (b : Bool) → true ≡ not b → b ≡ false
not_less true e = absurd (cc e)
not_less false e = refl

less : (b : Bool) → false ≡ not b → b ≡ false → ⊥
less true e f = cc f
less false e f = cc e

-- the order of two neighbours among the links
at_two : (xs : List PbLink) (x : PbLink) (k : ℕ) (d : LinkParts) → k + 1 < length xs
    → ascend (get_or (map link_of xs) k d) (get_or (map link_of xs) (k + 1) d) ≡ links_ascend (get_or xs k x) (get_or xs (k + 1) x)
at_two xs x k d here =
    let first = get_or-map link_of xs k x d (omega (arith, here)) in
    let second = get_or-map link_of xs (k + 1) x d here in
    (λ i. ascend (first i) (second i))

sorted : (xs : List PbLink) → AllAdjacentBelow (λ x y. true ≡ links_ascend x y) xs (length xs) → AreSorted (map link_of xs)
sorted [] h k d low here = absurd (omega (arith, here))
sorted (x ∷ xs) h k d low here =
    let within : k + 1 < length (x ∷ xs) = omega (arith, here, length-map (x ∷ xs) link_of) in
    not_less (is_lt (slice_cmp nat_cmp (sort_name (get_or (map link_of (x ∷ xs)) (k + 1) d)) (sort_name (get_or (map link_of (x ∷ xs)) k d)))) (h k x within ∙ sym (at_two (x ∷ xs) x k d within))

unsorted : (xs : List PbLink) (k : ℕ) → k + 1 < length xs → ((x : PbLink) → false ≡ links_ascend (get_or xs k x) (get_or xs (k + 1) x)) → AreSorted (map link_of xs) → ⊥
unsorted [] k here h s = omega (arith, here)
unsorted (x ∷ xs) k here h s =
    less (is_lt (slice_cmp nat_cmp (sort_name (get_or (map link_of (x ∷ xs)) (k + 1) (link_of x))) (sort_name (get_or (map link_of (x ∷ xs)) k (link_of x))))) (h x ∙ sym (at_two (x ∷ xs) x k (link_of x) here))
    (s k (link_of x) (omega arith) (omega (arith, here, length-map (x ∷ xs) link_of)))

pub sorted_answer : (xs : List PbLink) (r : Bool) → IsAllAdjacentAnswer (λ x y b. b ≡ links_ascend x y) xs r → MatchBool r (AreSorted (map link_of xs)) (AreSorted (map link_of xs) → ⊥)
sorted_answer xs true h = sorted xs h
sorted_answer xs false h = unsorted xs h.0 h.1 h.2
