-- Pairs that are put into the order of their keys.
use Rattle.std.proofs.Common.{◌≡◌, ℕ, List, [], ◌∷◌, refl, sym, ap, ◌∙◌, String, Global, string_bytes, string_cmp, Ordering, Less, Equal, Greater, Some, option_map}
use Rattle.std.proofs.lemmas.Map.Lookups.{exact_bytes}
use Rattle.std.proofs.lemmas.Cmp.{nat_list_cmp_total, tied_itself}
use Rattle.std.specs.BTreeMap.{insert_entry}
use Rattle.std.specs.Ordering.{match_ordering, ordering_reverse}
use Rattle.ipld_tree.specs.Key.{bytes_cmp, key_cmp}
use Rattle.ipld_tree.proofs.KeyOrder.{same_key}
use Rattle.ipld_tree.proofs.Ordered.{key_cmp_total, key_cmp_same}
use Rattle.dagcbor_heads.specs.Reading.{Reading}
use Rattle.ipld_tree.specs.Tree.{Tree}
use Rattle.dagcbor_items.specs.TypedReads.{TakesFront}
use Rattle.dagcbor_read.specs.Collections.{in_key_order, held_pairs, value_of, values_of}
use Rattle.dagcbor_items.specs.Shapes.{Shape}

bytes_same : (k : List ℕ) → bytes_cmp k k ≡ Equal
bytes_same k = tied_itself nat_list_cmp_total k

key_cmp_turned : (k l : List ℕ) (o : Ordering) → key_cmp k l ≡ o → key_cmp l k ≡ ordering_reverse o
key_cmp_turned k l o e = key_cmp_total.antisymm l k ∙ ap ordering_reverse e

module _ {V : Type 0} where
  abbrev put : List ℕ → V → List (List ℕ × V) → List (List ℕ × V)
  put k v ps = insert_entry key_cmp ps k v

  pub put_again : (k : List ℕ) (v w : V) (ps : List (List ℕ × V)) → put k v (put k w ps) ≡ put k v ps
  put_again k v w [] = ap (λ o. match_ordering o ((k, v) ∷ (k, w) ∷ []) ((k, v) ∷ []) ((k, w) ∷ (k, v) ∷ [])) (key_cmp_same k)
  put_again k v w (p ∷ ps) = by (put_again k v w ps) (key_cmp k p.0) refl
    where
      by : put k v (put k w ps) ≡ put k v ps → (o : Ordering) → key_cmp k p.0 ≡ o
          → put k v (match_ordering o ((k, w) ∷ p ∷ ps) ((p.0, w) ∷ ps) (p ∷ put k w ps)) ≡ match_ordering o ((k, v) ∷ p ∷ ps) ((p.0, v) ∷ ps) (p ∷ put k v ps)
      by more Less e = ap (λ o. match_ordering o ((k, v) ∷ (k, w) ∷ p ∷ ps) ((k, v) ∷ p ∷ ps) ((k, w) ∷ put k v (p ∷ ps))) (key_cmp_same k)
      by more Equal e = ap (λ o. match_ordering o ((k, v) ∷ (p.0, w) ∷ ps) ((p.0, v) ∷ ps) ((p.0, w) ∷ put k v ps)) e
      by more Greater e = ap (λ o. match_ordering o ((k, v) ∷ p ∷ put k w ps) ((p.0, v) ∷ put k w ps) (p ∷ put k v (put k w ps))) e ∙ ap (λ qs. p ∷ qs) more

  -- if the place of a key is known
  put_less : (k : List ℕ) (v : V) (p : List ℕ × V) (ps : List (List ℕ × V)) → key_cmp k p.0 ≡ Less → put k v (p ∷ ps) ≡ (k, v) ∷ p ∷ ps
  put_less k v p ps e = ap (λ o. match_ordering o ((k, v) ∷ p ∷ ps) ((p.0, v) ∷ ps) (p ∷ put k v ps)) e

  put_equal : (k : List ℕ) (v : V) (p : List ℕ × V) (ps : List (List ℕ × V)) → key_cmp k p.0 ≡ Equal → put k v (p ∷ ps) ≡ (p.0, v) ∷ ps
  put_equal k v p ps e = ap (λ o. match_ordering o ((k, v) ∷ p ∷ ps) ((p.0, v) ∷ ps) (p ∷ put k v ps)) e

  put_greater : (k : List ℕ) (v : V) (p : List ℕ × V) (ps : List (List ℕ × V)) → key_cmp k p.0 ≡ Greater → put k v (p ∷ ps) ≡ p ∷ put k v ps
  put_greater k v p ps e = ap (λ o. match_ordering o ((k, v) ∷ p ∷ ps) ((p.0, v) ∷ ps) (p ∷ put k v ps)) e

  -- keys that differ are put in any order
  put_below : (k l : List ℕ) (v w : V) (ps : List (List ℕ × V)) → key_cmp k l ≡ Less → put k v (put l w ps) ≡ put l w (put k v ps)
  put_below k l v w [] less = put_less k v (l, w) [] less ∙ sym (put_greater l w (k, v) [] (key_cmp_turned k l Less less))
  put_below k l v w (p ∷ ps) less = by (put_below k l v w ps less) (key_cmp l p.0) (key_cmp k p.0) refl refl
    where
      above_k : put l w ((k, v) ∷ p ∷ ps) ≡ (k, v) ∷ put l w (p ∷ ps)
      above_k = put_greater l w (k, v) (p ∷ ps) (key_cmp_turned k l Less less)

      by : put k v (put l w ps) ≡ put l w (put k v ps) → (b a : Ordering) → key_cmp l p.0 ≡ b → key_cmp k p.0 ≡ a → put k v (put l w (p ∷ ps)) ≡ put l w (put k v (p ∷ ps))
      by more Less a e f =
          let first : key_cmp k p.0 ≡ Less = key_cmp_total.trans k l p.0 less e in
          ap (put k v) (put_less l w p ps e) ∙ put_less k v (l, w) (p ∷ ps) less ∙ ap (λ qs. (k, v) ∷ qs) (sym (put_less l w p ps e)) ∙ sym above_k ∙ ap (put l w) (sym (put_less k v p ps first))
      by more Equal a e f =
          let first : key_cmp k p.0 ≡ Less = ap (key_cmp k) (sym (same_key l p.0 e)) ∙ less in
          ap (put k v) (put_equal l w p ps e) ∙ put_less k v (p.0, w) ps first ∙ ap (λ qs. (k, v) ∷ qs) (sym (put_equal l w p ps e)) ∙ sym above_k ∙ ap (put l w) (sym (put_less k v p ps first))
      by more Greater Less e f =
          ap (put k v) (put_greater l w p ps e) ∙ put_less k v p (put l w ps) f ∙ ap (λ qs. (k, v) ∷ qs) (sym (put_greater l w p ps e)) ∙ sym above_k ∙ ap (put l w) (sym (put_less k v p ps f))
      by more Greater Equal e f =
          ap (put k v) (put_greater l w p ps e) ∙ put_equal k v p (put l w ps) f ∙ sym (put_greater l w (p.0, v) ps e) ∙ ap (put l w) (sym (put_equal k v p ps f))
      by more Greater Greater e f =
          ap (put k v) (put_greater l w p ps e) ∙ put_greater k v p (put l w ps) f ∙ ap (λ qs. p ∷ qs) more ∙ sym (put_greater l w p (put k v ps) e) ∙ ap (put l w) (sym (put_greater k v p ps f))

  pub put_apart : (k l : List ℕ) (v w : V) (ps : List (List ℕ × V)) → (k ≡ l → ⊥) → put k v (put l w ps) ≡ put l w (put k v ps)
  put_apart k l v w ps apart = by (key_cmp k l) refl
    where
      by : (o : Ordering) → key_cmp k l ≡ o → put k v (put l w ps) ≡ put l w (put k v ps)
      by Less e = put_below k l v w ps e
      by Equal e = absurd (apart (same_key k l e))
      by Greater e = sym (put_below l k w v ps (key_cmp_turned k l Greater e))

-- a value that goes to its key in a sorted map
pub put_sorted : {A V : Type 0} (meaning : A → V) (es : List (String Global × A)) (k : String Global) (v : A)
    → in_key_order (held_pairs meaning (insert_entry string_cmp es k v)) ≡ insert_entry key_cmp (in_key_order (held_pairs meaning es)) (string_bytes k) (meaning v)
put_sorted meaning [] k v = refl
put_sorted {A} meaning (e ∷ es) k v = by (put_sorted meaning es k v) (string_cmp k e.0) refl
  where
    by : in_key_order (held_pairs meaning (insert_entry string_cmp es k v)) ≡ insert_entry key_cmp (in_key_order (held_pairs meaning es)) (string_bytes k) (meaning v) → (o : Ordering) → string_cmp k e.0 ≡ o
        → in_key_order (held_pairs meaning (match_ordering o ((k, v) ∷ e ∷ es) ((e.0, v) ∷ es) (e ∷ insert_entry string_cmp es k v)))
        ≡ insert_entry key_cmp (insert_entry key_cmp (in_key_order (held_pairs meaning es)) (string_bytes e.0) (meaning e.1)) (string_bytes k) (meaning v)
    by more Less h = refl
    by more Equal h =
        let is : string_bytes k ≡ string_bytes e.0 = exact_bytes (string_bytes k) (string_bytes e.0) h in
        sym (put_again (string_bytes e.0) (meaning v) (meaning e.1) (in_key_order (held_pairs meaning es)))
        ∙ ap (λ x. insert_entry key_cmp (insert_entry key_cmp (in_key_order (held_pairs meaning es)) (string_bytes e.0) (meaning e.1)) x (meaning v)) (sym is)
    by more Greater h =
        let apart : string_bytes k ≡ string_bytes e.0 → ⊥ = λ is. (let tied : string_cmp k e.0 ≡ Equal = ap (bytes_cmp (string_bytes k)) (sym is) ∙ bytes_same (string_bytes k) in let both : Greater ≡ Equal = sym h ∙ tied in absurd (cc both)) in
        ap (λ qs. insert_entry key_cmp qs (string_bytes e.0) (meaning e.1)) more
        ∙ sym (put_apart (string_bytes k) (string_bytes e.0) (meaning v) (meaning e.1) (in_key_order (held_pairs meaning es)) apart)

-- a value that was read goes to its key
pub value_put : {V : Type 0} {old new : Reading} (shape : Shape Tree V) (pairs s : List (List ℕ × V)) (key : List ℕ) (v : V) → s ≡ insert_entry key_cmp pairs key v
    → TakesFront shape old v new → TakesFront (value_of (values_of shape) pairs key) old s new
value_put {V} {old} {new} shape pairs s key v is a = record {
  taken = λ b l. (let t = a.taken b l in (t.0, t.1, t.2, ap (option_map (λ x. insert_entry key_cmp pairs key x)) t.3 ∙ ap Some (sym is), t.4, t.5));
  same = a.same;
}
