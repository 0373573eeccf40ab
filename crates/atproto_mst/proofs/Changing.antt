-- One entry that is changed among entries whose keys rise.
use Rattle.std.proofs.Common.{◌≡◌, ◌≢◌, ℕ, zero, suc, ◌+◌, ◌≤◌, ◌<◌, Bool, true, false, List, [], ◌∷◌, length, set, get_or, Some, None, Result, Ok, Err, MatchResult, refl, sym, ap, ◌∙◌, subst, arith, bytes_eq, HoldsAt, insert, remove}
use Rattle.std.specs.Prelude.{if◌then◌else◌}
use Rattle.std.specs.List.{AllWithin}
use Rattle.std.specs.List.Sorted.{IsSearchInRange, IsBinarySearchResult, IsSortedBy}
use Rattle.std.specs.declared.cmp.Ordering.{Ordering}
use Rattle.std.specs.declared.cmp.Ordering.TheVariants.{Less, Equal, Greater}
use Rattle.std.specs.Ordering.{nat_cmp, is_lt, ordering_reverse}
use Rattle.std.specs.Cmp.Lexicographic.{slice_cmp}
use Rattle.std.proofs.lemmas.Cmp.{nat_list_cmp_total}
use Rattle.std.proofs.lemmas.List.Sorted.{searchable_from_sorted}
use Rattle.std.proofs.lemmas.Map.Lookups.{exact_bytes}
use Rattle.std.proofs.lemmas.Slice.Eq.{bytes_eq-Decides}
use Rattle.ipld_tree.specs.Cid.{CidParts}
use Rattle.atproto_mst.specs.Keys.{Entry, IsKey, HaveKeys, ComesBefore, Rise}
use Rattle.atproto_mst.specs.Entries.{entries}
use Rattle.atproto_mst.specs.Finding.{lookup, by_order}
use Rattle.atproto_mst.specs.Changes.{set_entry, unset_entry, IsKeyAt, WouldBeKeyAt}
use Rattle.atproto_mst.specs.declared.entries.MstEntry.{MstEntry}
use Rattle.atproto_mst.proofs.Seeking.{Below, below_trans, same_keys, below_turned, not_same, other_first, this_first, no_record_before}

above_turned : (k l : List ℕ) → Below k l → slice_cmp nat_cmp l k ≡ Greater
above_turned k l b = nat_list_cmp_total.antisymm l k ∙ ap ordering_reverse b

same_order : (k l : List ℕ) → k ≡ l → slice_cmp nat_cmp k l ≡ Equal
same_order k l e = subst (λ x. slice_cmp nat_cmp k x ≡ Equal) e (same_keys k)

pub before_trans : (k l : List ℕ) (es : List Entry) → Below k l → ComesBefore l es → ComesBefore k es
before_trans k l [] b h = tt
before_trans k l (e ∷ es) b h = below_trans k l e.0 b h

-- ---- where a search ends

sorted_of : (es : List MstEntry) → Rise (entries es) → IsSortedBy (λ a b. is_lt (slice_cmp nat_cmp a.key.items b.key.items)) es
sorted_of [] r k d le lt = absurd (omega (arith, lt))
sorted_of (e ∷ []) r k d le lt = absurd (omega (arith, lt))
sorted_of (e ∷ f ∷ es) r zero d le lt = ap is_lt (above_turned e.key.items f.key.items r.0)
sorted_of (e ∷ f ∷ es) r (suc k) d le lt =
    subst (λ n. is_lt (slice_cmp nat_cmp (get_or (e ∷ f ∷ es) n d).key.items (get_or (f ∷ es) k d).key.items) ≡ false) {x = suc (k + 1)} (omega arith)
    (sorted_of (f ∷ es) r.1 k d (omega arith) (omega (arith, lt)))

first_below : (key : List ℕ) (e : Entry) (i : ℕ) (es : List Entry) → Rise (e ∷ es) → IsKeyAt key i es → Below e.0 key
first_below key e i [] r s = absurd s
first_below key e zero (f ∷ es) r s = subst (λ k. Below e.0 k) s r.0
first_below key e (suc i) (f ∷ es) r s = below_trans e.0 f.0 key r.0 s.0

stands : (key : List ℕ) (es : List MstEntry) (i : ℕ) → i < length es → HoldsAt (λ y. slice_cmp nat_cmp y.key.items key ≡ Equal) es i → Rise (entries es) → IsKeyAt key i (entries es)
stands key [] i lt h r = absurd (omega (arith, lt))
stands key (e ∷ es) zero lt h r = exact_bytes e.key.items key (h e)
stands key (e ∷ es) (suc i) lt h r =
    let more = stands key es i (omega (arith, lt)) (λ d. h d) r.1 in
    (first_below key (e.key.items, e.value) i (entries es) r more, more)

would_stand : (key : List ℕ) (es : List MstEntry) (i : ℕ) → i ≤ length es → AllWithin (λ y. slice_cmp nat_cmp y.key.items key ≡ Less) es 0 i → AllWithin (λ y. slice_cmp nat_cmp y.key.items key ≡ Greater) es i (length es)
    → WouldBeKeyAt key i (entries es)
would_stand key [] zero le low high = tt
would_stand key [] (suc i) le low high = absurd (omega (arith, le))
would_stand key (e ∷ es) zero le low high = below_turned e.key.items key (high zero e (omega arith) (omega arith))
would_stand key (e ∷ es) (suc i) le low high = (
  low zero e (omega arith) (omega arith),
  would_stand key es i (omega (arith, le)) (λ k d a b. low (suc k) d (omega arith) (omega (arith, b))) (λ k d a b. high (suc k) d (omega (arith, a)) (omega (arith, b))),
)

pub place_found : (key : List ℕ) (es : List MstEntry) (r : Result ℕ ℕ) → IsSearchInRange r (length es) → IsBinarySearchResult (λ y. slice_cmp nat_cmp y.key.items key) es r → Rise (entries es)
    → MatchResult r (λ i. IsKeyAt key i (entries es)) (λ i. WouldBeKeyAt key i (entries es))
place_found key es (Ok i) range found rise = stands key es i range found rise
place_found key es (Err i) range found rise =
    let parts = found (searchable_from_sorted nat_list_cmp_total (λ y. y.key.items) es key (sorted_of es rise)) in
    would_stand key es i range parts.0 parts.1

pub stands_in : (key : List ℕ) (i : ℕ) (xs es : List MstEntry) → xs ≡ es → (Rise (entries xs) → IsKeyAt key i (entries xs)) → Rise (entries es) → IsKeyAt key i (entries es)
stands_in key i xs es e h rise = subst (λ l. IsKeyAt key i (entries l)) e (h (subst (λ l. Rise (entries l)) (sym e) rise))

pub would_in : (key : List ℕ) (i : ℕ) (xs es : List MstEntry) → xs ≡ es → (Rise (entries xs) → WouldBeKeyAt key i (entries xs)) → Rise (entries es) → WouldBeKeyAt key i (entries es)
would_in key i xs es e h rise = subst (λ l. WouldBeKeyAt key i (entries l)) e (h (subst (λ l. Rise (entries l)) (sym e) rise))

-- ---- what stands there

pub record_at : (key : List ℕ) (es : List MstEntry) (i : ℕ) (d : MstEntry) → IsKeyAt key i (entries es) → Rise (entries es) → lookup key (entries es) ≡ Some (get_or es i d).value
record_at key [] i d s r = absurd s
record_at key (e ∷ es) zero d s r = this_first key e.key.items e.value (entries es) s
record_at key (e ∷ es) (suc i) d s r = other_first key e.key.items e.value (entries es) (not_same e.key.items key s.0) ∙ record_at key es i d s.1 r.1

pub no_record_at : (key : List ℕ) (es : List Entry) (i : ℕ) → WouldBeKeyAt key i es → Rise es → lookup key es ≡ None
no_record_at key es zero s r = no_record_before key es s r
no_record_at key [] (suc i) s r = refl
no_record_at key (e ∷ es) (suc i) s r = other_first key e.0 e.1 es (not_same e.0 key s.0) ∙ no_record_at key es i s.1 r.1

at_less : (X : Type 0) (o : Ordering) (a b c : X) → o ≡ Less → by_order o a b c ≡ a
at_less X o a b c e = ap (λ x. by_order x a b c) e

at_equal : (X : Type 0) (o : Ordering) (a b c : X) → o ≡ Equal → by_order o a b c ≡ b
at_equal X o a b c e = ap (λ x. by_order x a b c) e

at_greater : (X : Type 0) (o : Ordering) (a b c : X) → o ≡ Greater → by_order o a b c ≡ c
at_greater X o a b c e = ap (λ x. by_order x a b c) e

pub set_at : (key : List ℕ) (value : CidParts) (es : List MstEntry) (i : ℕ) (x d : MstEntry) → IsKeyAt key i (entries es) → x.key.items ≡ (get_or es i d).key.items → x.value ≡ value
    → entries (set es i x) ≡ set_entry key value (entries es)
set_at key value [] i x d s k v = absurd s
set_at key value (e ∷ es) zero x d s k v =
    ap (λ n. (n, x.value) ∷ entries es) (k ∙ s) ∙ ap (λ n. (key, n) ∷ entries es) v
    ∙ sym (at_equal (List Entry) (slice_cmp nat_cmp key e.key.items) ((key, value) ∷ entries (e ∷ es)) ((key, value) ∷ entries es) ((e.key.items, e.value) ∷ set_entry key value (entries es)) (same_order key e.key.items (sym s)))
set_at key value (e ∷ es) (suc i) x d s k v =
    ap (λ n. (e.key.items, e.value) ∷ n) (set_at key value es i x d s.1 k v)
    ∙ sym (at_greater (List Entry) (slice_cmp nat_cmp key e.key.items) ((key, value) ∷ entries (e ∷ es)) ((key, value) ∷ entries es) ((e.key.items, e.value) ∷ set_entry key value (entries es)) (above_turned e.key.items key s.0))

pub insert_at : (key : List ℕ) (value : CidParts) (es : List MstEntry) (i : ℕ) (x : MstEntry) → WouldBeKeyAt key i (entries es) → x.key.items ≡ key → x.value ≡ value
    → entries (insert es i x) ≡ set_entry key value (entries es)
insert_at key value [] zero x s k v = ap (λ n. (n, x.value) ∷ []) k ∙ ap (λ n. (key, n) ∷ []) v
insert_at key value (e ∷ es) zero x s k v =
    ap (λ n. (n, x.value) ∷ entries (e ∷ es)) k ∙ ap (λ n. (key, n) ∷ entries (e ∷ es)) v
    ∙ sym (at_less (List Entry) (slice_cmp nat_cmp key e.key.items) ((key, value) ∷ entries (e ∷ es)) ((key, value) ∷ entries es) ((e.key.items, e.value) ∷ set_entry key value (entries es)) s)
insert_at key value [] (suc i) x s k v = absurd s
insert_at key value (e ∷ es) (suc i) x s k v =
    ap (λ n. (e.key.items, e.value) ∷ n) (insert_at key value es i x s.1 k v)
    ∙ sym (at_greater (List Entry) (slice_cmp nat_cmp key e.key.items) ((key, value) ∷ entries (e ∷ es)) ((key, value) ∷ entries es) ((e.key.items, e.value) ∷ set_entry key value (entries es)) (above_turned e.key.items key s.0))

unset_this_first : (key k : List ℕ) (v : CidParts) (es : List Entry) → k ≡ key → unset_entry key ((k, v) ∷ es) ≡ es
unset_this_first key k v es e = ap (λ b. if b then es else (k, v) ∷ unset_entry key es) ((bytes_eq-Decides k key).1 e)

unset_other_first : (key k : List ℕ) (v : CidParts) (es : List Entry) → (k ≡ key → ⊥) → unset_entry key ((k, v) ∷ es) ≡ (k, v) ∷ unset_entry key es
unset_other_first key k v es not = by (bytes_eq k key) refl
  where
    by : (b : Bool) → bytes_eq k key ≡ b → unset_entry key ((k, v) ∷ es) ≡ (k, v) ∷ unset_entry key es
    by true e = absurd (not ((bytes_eq-Decides k key).0 e))
    by false e = ap (λ b. if b then es else (k, v) ∷ unset_entry key es) e

pub remove_at : (key : List ℕ) (es : List MstEntry) (i : ℕ) → IsKeyAt key i (entries es) → entries (remove es i) ≡ unset_entry key (entries es)
remove_at key [] i s = absurd s
remove_at key (e ∷ es) zero s = sym (unset_this_first key e.key.items e.value (entries es) s)
remove_at key (e ∷ es) (suc i) s =
    ap (λ n. (e.key.items, e.value) ∷ n) (remove_at key es i s.1) ∙ sym (unset_other_first key e.key.items e.value (entries es) (not_same e.key.items key s.0))

pub none_removed : (key : List ℕ) (es : List Entry) → lookup key es ≡ None → es ≡ unset_entry key es
none_removed key [] h = refl
none_removed key (e ∷ es) h = by (λ n. none_removed key es n) (bytes_eq e.0 key) refl
  where
    by : (lookup key es ≡ None → es ≡ unset_entry key es) → (b : Bool) → bytes_eq e.0 key ≡ b → e ∷ es ≡ unset_entry key (e ∷ es)
    by more true y = let here = this_first key e.0 e.1 es ((bytes_eq-Decides e.0 key).0 y) in absurd (cc (here, h))
    by more false y =
        let other : lookup key (e ∷ es) ≡ lookup key es = ap (λ b. if b then Some e.1 else lookup key es) y in
        ap (λ n. e ∷ n) (more (sym other ∙ h)) ∙ sym (ap (λ b. if b then es else e ∷ unset_entry key es) y)

-- ---- records among changed entries

pub set_this : (key : List ℕ) (value : CidParts) (es : List Entry) → lookup key (set_entry key value es) ≡ Some value
set_this key value [] = this_first key key value [] refl
set_this key value (e ∷ es) = by (set_this key value es) (slice_cmp nat_cmp key e.0) refl
  where
    by : lookup key (set_entry key value es) ≡ Some value → (o : Ordering) → slice_cmp nat_cmp key e.0 ≡ o → lookup key (by_order o ((key, value) ∷ (e ∷ es)) ((key, value) ∷ es) (e ∷ set_entry key value es)) ≡ Some value
    by more Less o = this_first key key value (e ∷ es) refl
    by more Equal o = this_first key key value es refl
    by more Greater o = other_first key e.0 e.1 (set_entry key value es) (not_same e.0 key (below_turned key e.0 o)) ∙ more

pub set_other : (key : List ℕ) (value : CidParts) (es : List Entry) (k : List ℕ) → k ≢ key → lookup k (set_entry key value es) ≡ lookup k es
set_other key value [] k not = other_first k key value [] (λ is. not (sym is))
set_other key value (e ∷ es) k not = by (set_other key value es k not) (slice_cmp nat_cmp key e.0) refl
  where
    by : lookup k (set_entry key value es) ≡ lookup k es → (o : Ordering) → slice_cmp nat_cmp key e.0 ≡ o → lookup k (by_order o ((key, value) ∷ (e ∷ es)) ((key, value) ∷ es) (e ∷ set_entry key value es)) ≡ lookup k (e ∷ es)
    by more Less o = other_first k key value (e ∷ es) (λ is. not (sym is))
    by more Equal o = other_first k key value es (λ is. not (sym is)) ∙ sym (other_first k e.0 e.1 es (λ is. not (sym (exact_bytes key e.0 o ∙ is))))
    by more Greater o = ap (λ found. if bytes_eq e.0 k then Some e.1 else found) (more)

pub unset_this : (key : List ℕ) (es : List Entry) → Rise es → lookup key (unset_entry key es) ≡ None
unset_this key [] r = refl
unset_this key (e ∷ es) r = by (unset_this key es r.1) (bytes_eq e.0 key) refl
  where
    by : lookup key (unset_entry key es) ≡ None → (b : Bool) → bytes_eq e.0 key ≡ b → lookup key (if b then es else e ∷ unset_entry key es) ≡ None
    by more true y = no_record_before key es (subst (λ k. ComesBefore k es) ((bytes_eq-Decides e.0 key).0 y) r.0) r.1
    by more false y = ap (λ b. if b then Some e.1 else lookup key (unset_entry key es)) y ∙ more

pub unset_other : (key : List ℕ) (es : List Entry) (k : List ℕ) → k ≢ key → lookup k (unset_entry key es) ≡ lookup k es
unset_other key [] k not = refl
unset_other key (e ∷ es) k not = by (unset_other key es k not) (bytes_eq e.0 key) refl
  where
    by : lookup k (unset_entry key es) ≡ lookup k es → (b : Bool) → bytes_eq e.0 key ≡ b → lookup k (if b then es else e ∷ unset_entry key es) ≡ lookup k (e ∷ es)
    by more true y = sym (other_first k e.0 e.1 es (λ is. not (sym is ∙ (bytes_eq-Decides e.0 key).0 y)))
    by more false y = ap (λ found. if bytes_eq e.0 k then Some e.1 else found) (more)

-- ---- the order of changed entries

set_after : (k key : List ℕ) (value : CidParts) (es : List Entry) → Below k key → ComesBefore k es → ComesBefore k (set_entry key value es)
set_after k key value [] b h = b
set_after k key value (e ∷ es) b h = by (slice_cmp nat_cmp key e.0)
  where
    by : (o : Ordering) → ComesBefore k (by_order o ((key, value) ∷ (e ∷ es)) ((key, value) ∷ es) (e ∷ set_entry key value es))
    by Less = b
    by Equal = b
    by Greater = h

pub set_rises : (key : List ℕ) (value : CidParts) (es : List Entry) → Rise es → Rise (set_entry key value es)
set_rises key value [] r = (tt, tt)
set_rises key value (e ∷ es) r = by (set_rises key value es r.1) (slice_cmp nat_cmp key e.0) refl
  where
    by : Rise (set_entry key value es) → (o : Ordering) → slice_cmp nat_cmp key e.0 ≡ o → Rise (by_order o ((key, value) ∷ (e ∷ es)) ((key, value) ∷ es) (e ∷ set_entry key value es))
    by more Less o = (o, r)
    by more Equal o = (subst (λ k. ComesBefore k es) (sym (exact_bytes key e.0 o)) r.0, r.1)
    by more Greater o = (set_after e.0 key value es (below_turned key e.0 o) r.0, more)

pub set_keys : (key : List ℕ) (value : CidParts) (es : List Entry) → IsKey key → HaveKeys es → HaveKeys (set_entry key value es)
set_keys key value [] k h = (k, tt)
set_keys key value (e ∷ es) k h = by (set_keys key value es k h.1) (slice_cmp nat_cmp key e.0)
  where
    by : HaveKeys (set_entry key value es) → (o : Ordering) → HaveKeys (by_order o ((key, value) ∷ (e ∷ es)) ((key, value) ∷ es) (e ∷ set_entry key value es))
    by more Less = (k, h)
    by more Equal = (k, h.1)
    by more Greater = (h.0, more)

unset_after : (k key : List ℕ) (es : List Entry) → ComesBefore k es → Rise es → ComesBefore k (unset_entry key es)
unset_after k key [] h r = tt
unset_after k key (e ∷ es) h r = by (bytes_eq e.0 key)
  where
    by : (b : Bool) → ComesBefore k (if b then es else e ∷ unset_entry key es)
    by true = before_trans k e.0 es h r.0
    by false = h

pub unset_rises : (key : List ℕ) (es : List Entry) → Rise es → Rise (unset_entry key es)
unset_rises key [] r = tt
unset_rises key (e ∷ es) r = by (unset_rises key es r.1) (bytes_eq e.0 key)
  where
    by : Rise (unset_entry key es) → (b : Bool) → Rise (if b then es else e ∷ unset_entry key es)
    by more true = r.1
    by more false = (unset_after e.0 key es r.0 r.1, more)

pub unset_keys : (key : List ℕ) (es : List Entry) → HaveKeys es → HaveKeys (unset_entry key es)
unset_keys key [] h = tt
unset_keys key (e ∷ es) h = by (unset_keys key es h.1) (bytes_eq e.0 key)
  where
    by : HaveKeys (unset_entry key es) → (b : Bool) → HaveKeys (if b then es else e ∷ unset_entry key es)
    by more true = h.1
    by more false = (h.0, more)
