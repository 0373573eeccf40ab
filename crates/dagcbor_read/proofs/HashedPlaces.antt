-- Pairs of a hashed map, whose walk does not show in the order of the keys.
use Rattle.std.proofs.Common.{◌≡◌, T, List, [], ◌∷◌, ℕ, Bool, true, false, cond, refl, sym, ap, ◌∙◌, subst, String, Global, string_bytes, nat_eq, Option, None, Some, IsPermutation, MatchOption, is_eq, string_eq, Ordering, Less, Equal, Greater}
use Rattle.std.proofs.lemmas.List.Sorted.{Contains-permutation, IsPermutation-sym, IsPermutation-map}
use Rattle.std.proofs.lemmas.Map.Keys.{IsDistinct-IsPermutation}
use Rattle.std.proofs.lemmas.Map.Views.{Contains-from_lookup, lookup-from_Contains}
use Rattle.std.specs.BTreeMap.{insert_entry}
use Rattle.std.specs.Cmp.{eq_by_cmp_equiv}
use Rattle.std.specs.Cmp.Lexicographic.{bytes_decides, pointwise}
use Rattle.std.specs.FinMap.Entries as places
use Rattle.std.specs.List.{IsDistinct, AllByRecursion}
use Rattle.std.specs.Map.{keys_of, lookup, set_value}
use Rattle.std.specs.Ordering.{match_ordering}
use Rattle.std.specs.String.{string_eq_equiv}
use Rattle.ipld_tree.specs.Key.{key_cmp}
use Rattle.ipld_tree.proofs.Ordered.{key_cmp_total, same_place, same_place_flips}
use Rattle.dagcbor_read.specs.Collections.{in_key_order, held_pairs}
use Rattle.ipld_tree.proofs.KeyOrder.{same_key}
use Rattle.dagcbor_read.proofs.KeyPlaces.{put_again, put_apart}

exact : (k l : List ℕ) → same_place k l ≡ true → k ≡ l
exact k l e = same_key k l (by (key_cmp k l) e)
  where
    by : (o : Ordering) → is_eq o ≡ true → o ≡ Equal
    by Less h = absurd (cc h)
    by Equal h = refl
    by Greater h = absurd (cc h)

module _ {V : Type 0} where
  as_place : (k : List ℕ) (v : V) (ps : List (List ℕ × V)) → insert_entry key_cmp ps k v ≡ places.put key_cmp k v ps
  as_place k v [] = refl
  as_place k v (p ∷ ps) = by (as_place k v ps) (key_cmp k p.0)
    where
      by : insert_entry key_cmp ps k v ≡ places.put key_cmp k v ps → (o : Ordering)
          → match_ordering o ((k, v) ∷ p ∷ ps) ((p.0, v) ∷ ps) (p ∷ insert_entry key_cmp ps k v) ≡ places.by_order o ((k, v) ∷ p ∷ ps) ((p.0, v) ∷ ps) (p ∷ places.put key_cmp k v ps)
      by more Less = refl
      by more Equal = refl
      by more Greater = ap (λ qs. p ∷ qs) more

  in_order_sorted : (ps : List (List ℕ × V)) → T (places.is_sorted key_cmp (in_key_order ps))
  in_order_sorted [] = tt
  in_order_sorted (p ∷ ps) = subst (λ qs. T (places.is_sorted key_cmp qs)) (sym (as_place p.0 p.1 (in_key_order ps))) (places.is_sorted-put key_cmp key_cmp_total p.0 p.1 (in_key_order ps) (in_order_sorted ps))

  found_in_order : (q : List ℕ) (ps : List (List ℕ × V)) → places.find key_cmp q (in_key_order ps) ≡ lookup (same_place q) ps
  found_in_order q [] = refl
  found_in_order q (p ∷ ps) = ap (places.find key_cmp q) (as_place p.0 p.1 (in_key_order ps)) ∙ places.find-put key_cmp key_cmp_total q p.0 p.1 (in_key_order ps) ∙ ap (cond (same_place q p.0) (Some p.1)) (found_in_order q ps)

  found_moved : (q : List ℕ) (ps qs : List (List ℕ × V)) (v : V) → IsDistinct same_place (keys_of qs) → IsPermutation ps qs → lookup (same_place q) ps ≡ Some v → lookup (same_place q) qs ≡ Some v
  found_moved q ps qs v d m e = lookup-from_Contains (eq_by_cmp_equiv key_cmp_total) q v qs d (Contains-permutation ps qs (q, v) m (Contains-from_lookup exact q v ps e))

  same_found : (q : List ℕ) (ps qs : List (List ℕ × V)) → IsDistinct same_place (keys_of ps) → IsDistinct same_place (keys_of qs) → IsPermutation ps qs → lookup (same_place q) ps ≡ lookup (same_place q) qs
  same_found q ps qs d f m = by (lookup (same_place q) ps) (lookup (same_place q) qs) refl refl
    where
      by : (a b : Option V) → lookup (same_place q) ps ≡ a → lookup (same_place q) qs ≡ b → lookup (same_place q) ps ≡ lookup (same_place q) qs
      by (Some v) b e g = e ∙ sym (found_moved q ps qs v f m e)
      by None (Some w) e g = found_moved q qs ps w d (IsPermutation-sym ps qs m) g ∙ sym g
      by None None e g = e ∙ sym g

  order_moved : (ps qs : List (List ℕ × V)) → IsDistinct same_place (keys_of ps) → IsDistinct same_place (keys_of qs) → IsPermutation ps qs → in_key_order ps ≡ in_key_order qs
  order_moved ps qs d f m = places.same_entries key_cmp key_cmp_total same_key (in_key_order ps) (in_key_order qs) (in_order_sorted ps) (in_order_sorted qs)
      (λ q. found_in_order q ps ∙ same_found q ps qs d f m ∙ sym (found_in_order q qs))

-- ---- texts as keys

apart : (k l : String Global) → string_eq k l ≡ false → same_place (string_bytes k) (string_bytes l) ≡ false
apart k l e = by (same_place (string_bytes k) (string_bytes l)) refl
  where
    by : (b : Bool) → same_place (string_bytes k) (string_bytes l) ≡ b → b ≡ false
    by false h = refl
    by true h =
        let is = exact (string_bytes k) (string_bytes l) h in
        let tied : string_eq k l ≡ true = sym (ap (pointwise nat_eq (string_bytes k)) is) ∙ string_eq_equiv.refl k in
        sym tied ∙ e

module _ {A V : Type 0} (meaning : A → V) where
  apart_all : (k : String Global) (es : List (String Global × A)) → AllByRecursion (λ l. string_eq k l ≡ false) (keys_of es) → AllByRecursion (λ l. same_place (string_bytes k) l ≡ false) (keys_of (held_pairs meaning es))
  apart_all k [] h = tt
  apart_all k (e ∷ es) h = (apart k e.0 h.0, apart_all k es h.1)

  texts_distinct : (es : List (String Global × A)) → IsDistinct string_eq (keys_of es) → IsDistinct same_place (keys_of (held_pairs meaning es))
  unfolding IsDistinct
  texts_distinct [] d = tt
  texts_distinct (e ∷ es) d = (apart_all e.0 es d.0, texts_distinct es d.1)

  -- a new key of a hashed map
  pub put_new : (es new : List (String Global × A)) (k : String Global) (v : A) → IsDistinct string_eq (keys_of new) → IsPermutation ((k, v) ∷ es) new
      → in_key_order (held_pairs meaning new) ≡ insert_entry key_cmp (in_key_order (held_pairs meaning es)) (string_bytes k) (meaning v)
  put_new es new k v d m =
      let f : String Global × A → List ℕ × V = λ e. (string_bytes e.0, meaning e.1) in
      let back = IsPermutation-map f new ((k, v) ∷ es) (IsPermutation-sym ((k, v) ∷ es) new m) in
      let distinct = texts_distinct new d in
      let keys = IsPermutation-map (λ (p : List ℕ × V). p.0) (held_pairs meaning new) (held_pairs meaning ((k, v) ∷ es)) back in
      order_moved (held_pairs meaning new) (held_pairs meaning ((k, v) ∷ es)) distinct
      (IsDistinct-IsPermutation same_place same_place_flips (keys_of (held_pairs meaning new)) (keys_of (held_pairs meaning ((k, v) ∷ es))) keys distinct) back

  -- a key that a hashed map has
  pub put_known : (es : List (String Global × A)) (k : String Global) (v w : A) → lookup (string_eq k) es ≡ Some w
      → in_key_order (held_pairs meaning (set_value (string_eq k) es v)) ≡ insert_entry key_cmp (in_key_order (held_pairs meaning es)) (string_bytes k) (meaning v)
  put_known [] k v w e = absurd (cc e)
  put_known (e ∷ es) k v w found = by (λ g. put_known es k v w g) (string_eq k e.0) refl found
    where
      by : (lookup (string_eq k) es ≡ Some w → in_key_order (held_pairs meaning (set_value (string_eq k) es v)) ≡ insert_entry key_cmp (in_key_order (held_pairs meaning es)) (string_bytes k) (meaning v))
          → (b : Bool) → string_eq k e.0 ≡ b → cond b (Some e.1) (lookup (string_eq k) es) ≡ Some w
          → in_key_order (held_pairs meaning (cond b ((e.0, v) ∷ es) (e ∷ set_value (string_eq k) es v))) ≡ insert_entry key_cmp (insert_entry key_cmp (in_key_order (held_pairs meaning es)) (string_bytes e.0) (meaning e.1)) (string_bytes k) (meaning v)
      by more true h f =
          let is : string_bytes k ≡ string_bytes e.0 = (bytes_decides (string_bytes k) (string_bytes e.0)).0 h in
          sym (put_again (string_bytes e.0) (meaning v) (meaning e.1) (in_key_order (held_pairs meaning es)))
          ∙ ap (λ x. insert_entry key_cmp (insert_entry key_cmp (in_key_order (held_pairs meaning es)) (string_bytes e.0) (meaning e.1)) x (meaning v)) (sym is)
      by more false h f =
          ap (λ qs. insert_entry key_cmp qs (string_bytes e.0) (meaning e.1)) (more f)
          ∙ sym (put_apart (string_bytes k) (string_bytes e.0) (meaning v) (meaning e.1) (in_key_order (held_pairs meaning es))
          (λ is. let both : true ≡ false = sym (sym (ap (pointwise nat_eq (string_bytes k)) is) ∙ string_eq_equiv.refl k) ∙ h in absurd (cc both)))

  -- a value that goes to its key in a hashed map
  pub put_hashed : (es new : List (String Global × A)) (k : String Global) (v : A) (o : Option A) → o ≡ lookup (string_eq k) es → MatchOption o (IsPermutation ((k, v) ∷ es) new) (λ _. new ≡ set_value (string_eq k) es v) → IsDistinct string_eq (keys_of new)
      → in_key_order (held_pairs meaning new) ≡ insert_entry key_cmp (in_key_order (held_pairs meaning es)) (string_bytes k) (meaning v)
  put_hashed es new k v None e h d = put_new es new k v d h
  put_hashed es new k v (Some w) e h d = ap (λ fs. in_key_order (held_pairs meaning fs)) h ∙ put_known es k v w (sym e)
