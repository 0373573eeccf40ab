-- The names that come after a name.
use Rattle.std.proofs.Common.{◌≡◌, ℕ, List, [], ◌∷◌, ◌++◌, false, Ordering, Less, Equal, Greater, is_lt, refl, sym, ◌∙◌, subst, true≢false, arith, Option, None, Some, nat_cmp}
use Rattle.std.specs.Ordering.{ordering_then, ordering_reverse}
use Rattle.std.proofs.lemmas.Bool.Decides.{nat_tests}
use Rattle.std.proofs.lemmas.Cmp.{nat_cmp_total}
use Rattle.sqlite_value.specs.Order.{Row}
use Rattle.store_rows.specs.Rows.{IsListed, name_cmp, IsFirstFrom, FindsFirst}
use Rattle.store_on_disk.specs.Stored.{bound_after, IsAfter, IsNext}
use Rattle.ipld_tree.specs.Cid.{CidParts, cid_bytes}

not_below : (m q : List ℕ) → is_lt (name_cmp q (m ++ 0 ∷ [])) ≡ false → name_cmp m q ≡ Less
not_below [] [] h = absurd (true≢false h)
not_below [] (x ∷ q) h = refl
not_below (a ∷ m) [] h = absurd (true≢false h)
not_below (a ∷ m) (x ∷ q) h = subst (λ o. ordering_then o (name_cmp m q) ≡ Less) (sym (nat_cmp_total.antisymm a x)) (by (nat_cmp x a) h (not_below m q))
  where
    by : (o : Ordering) → is_lt (ordering_then o (name_cmp q (m ++ 0 ∷ []))) ≡ false → (is_lt (name_cmp q (m ++ 0 ∷ [])) ≡ false → name_cmp m q ≡ Less) → ordering_then (ordering_reverse o) (name_cmp m q) ≡ Less
    by Less k more = absurd (true≢false k)
    by Equal k more = more k
    by Greater k more = refl

no_less : (x : ℕ) → is_lt (nat_cmp x 0) ≡ false
no_less x = grind (arith, nat_tests)

none_below : (q : List ℕ) → is_lt (name_cmp q []) ≡ false
none_below [] = refl
none_below (x ∷ q) = refl

below_bound : (m q : List ℕ) → name_cmp m q ≡ Less → is_lt (name_cmp q (m ++ 0 ∷ [])) ≡ false
below_bound [] [] h = absurd (cc h)
below_bound [] (x ∷ q) h = by (nat_cmp x 0) (no_less x)
  where
    by : (o : Ordering) → is_lt o ≡ false → is_lt (ordering_then o (name_cmp q [])) ≡ false
    by Less k = k
    by Equal k = none_below q
    by Greater k = refl
below_bound (a ∷ m) [] h = absurd (cc h)
below_bound (a ∷ m) (x ∷ q) h = by (nat_cmp x a) (subst (λ o. ordering_then o (name_cmp m q) ≡ Less) (nat_cmp_total.antisymm a x) h) (below_bound m q)
  where
    by : (o : Ordering) → ordering_then (ordering_reverse o) (name_cmp m q) ≡ Less → (name_cmp m q ≡ Less → is_lt (name_cmp q (m ++ 0 ∷ [])) ≡ false) → is_lt (ordering_then o (name_cmp q (m ++ 0 ∷ []))) ≡ false
    by Less k more = absurd (cc k)
    by Equal k more = more k
    by Greater k more = refl

above_bound : (last : Option CidParts) (q : List ℕ) → is_lt (name_cmp q (bound_after last)) ≡ false → IsAfter last q
above_bound None q h = tt
above_bound (Some c) q h = not_below (cid_bytes c) q h

not_below_bound : (last : Option CidParts) (q : List ℕ) → IsAfter last q → is_lt (name_cmp q (bound_after last)) ≡ false
not_below_bound None q h = none_below q
not_below_bound (Some c) q h = below_bound (cid_bytes c) q h

pub next_none : (es : List Row) (last : Option CidParts) → FindsFirst es (bound_after last) None → (q : List ℕ) → IsListed es q → IsAfter last q → ⊥
next_none es last h q l following = true≢false (sym (h q l) ∙ not_below_bound last q following)

pub next_some : (es : List Row) (last : Option CidParts) (c : CidParts) → IsFirstFrom es (bound_after last) c → IsNext es last c
next_some es last c h = record { valid = h.valid; listed = h.listed; following = above_bound last (cid_bytes c) h.above; first = λ q l following. h.first q l (not_below_bound last q following) }
