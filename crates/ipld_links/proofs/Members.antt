-- Members of lists, and of sets of CIDs.
use Rattle.std.proofs.Common.{◌≡◌, ◌≢◌, ◌⊎◌, Result, Ok, Err, OnErr, ◌<◌, length, arith, inl, inr, ℕ, List, [], ◌∷◌, ◌++◌, map, Bool, true, false, ◌||◌, cond, Ordering, Less, Equal, Greater, refl, sym, ap, ◌∙◌, subst, nat_cmp, is_eq}
use Rattle.std.specs.Ordering.{ordering_then, ordering_reverse}
use Rattle.std.specs.Cmp.Lexicographic.{slice_cmp}
use Rattle.std.specs.List.{list_any}
use Rattle.std.specs.List.Sorted.{IsStrictlySortedBy}
use Rattle.std.specs.BTreeMap.{is_at}
use Rattle.std.specs.BTreeSet as set
use Rattle.std.proofs.lemmas.Cmp.{nat_cmp_total, nat_list_cmp_total}
use Rattle.ipld_tree.specs.Cid.{CidParts, AreCidParts, cid_bytes, cid_cmp}
use Rattle.ipld_tree.specs.CidHash.{same_cid, is_equal}
use Rattle.dagcbor_items.specs.Walks.{forms}
use Rattle.ipld_links.specs.Sets.{Among, members, AddsCid, RemovesCid}
use Rattle.ipld_links.specs.declared.cid_set.CidSet.{CidSet}

-- ---- lists

-- a list with a place in it is not empty
pub some_left : {X : Type 0} (xs : List X) (i : ℕ) → i < length xs → xs ≢ []
some_left [] i lt is = omega (arith, lt)
some_left (x ∷ xs) i lt is = absurd (cc is)

pub none_of : {X : Type 0} (xs : List X) → length xs ≡ 0 → xs ≡ []
none_of [] none = refl
none_of (x ∷ xs) none = absurd (omega (arith, none))

-- a refusal comes only if the list is not empty
pub some_of : {X A E : Type 0} (xs : List X) (r : Result A E) → (length xs ≡ 0 → ⊥) → OnErr r (xs ≢ [])
some_of xs (Ok v) some = tt
some_of [] (Err e) some = absurd (some refl)
some_of (x ∷ xs) (Err e) some = λ none. cc none

pub none_in_order : (xs : List CidParts) → xs ≡ [] → IsStrictlySortedBy cid_cmp xs
unfolding IsStrictlySortedBy
none_in_order [] none = tt
none_in_order (x ∷ xs) none = absurd (cc none)

pub among_push : {X : Type 0} (x : X) (xs : List X) (y : X) → Among x (xs ++ y ∷ []) → Among x xs ⊎ (x ≡ y)
among_push x [] y (inl e) = inr e
among_push x [] y (inr h) = absurd h
among_push x (z ∷ zs) y (inl e) = inl (inl e)
among_push x (z ∷ zs) y (inr h) = elim (among_push x zs y h) [ inl m ↦ inl (inr m) | inr e ↦ inr e ]

pub push_among : {X : Type 0} (x : X) (xs : List X) (y : X) → Among x xs ⊎ (x ≡ y) → Among x (xs ++ y ∷ [])
push_among x [] y (inl h) = absurd h
push_among x [] y (inr e) = inl e
push_among x (z ∷ zs) y (inl (inl e)) = inl e
push_among x (z ∷ zs) y (inl (inr h)) = inr (push_among x zs y (inl h))
push_among x (z ∷ zs) y (inr e) = inr (push_among x zs y (inr e))

pub among_append : {X : Type 0} (x : X) (xs ys : List X) → Among x (xs ++ ys) → Among x xs ⊎ Among x ys
among_append x [] ys h = inr h
among_append x (z ∷ zs) ys (inl e) = inl (inl e)
among_append x (z ∷ zs) ys (inr h) = elim (among_append x zs ys h) [ inl m ↦ inl (inr m) | inr m ↦ inr m ]

pub append_among : {X : Type 0} (x : X) (xs ys : List X) → Among x xs ⊎ Among x ys → Among x (xs ++ ys)
append_among x [] ys (inl h) = absurd h
append_among x [] ys (inr h) = h
append_among x (z ∷ zs) ys (inl (inl e)) = inl e
append_among x (z ∷ zs) ys (inl (inr h)) = inr (append_among x zs ys (inl h))
append_among x (z ∷ zs) ys (inr h) = inr (append_among x zs ys (inr h))

pub among_map : {X Y : Type 0} (f : X → Y) (x : X) (xs : List X) → Among x xs → Among (f x) (map f xs)
among_map f x (y ∷ ys) (inl e) = inl (ap f e)
among_map f x (y ∷ ys) (inr h) = inr (among_map f x ys h)
among_map f x [] h = absurd h

pub map_among : {X Y : Type 0} (f : X → Y) (y : Y) (xs : List X) → Among y (map f xs) → (x : X) × Among x xs × (y ≡ f x)
map_among f y [] h = absurd h
map_among f y (x ∷ xs) (inl e) = (x, inl refl, e)
map_among f y (x ∷ xs) (inr h) = let k = map_among f y xs h in (k.0, inr k.1, k.2)

-- a form of a member
pub among_forms : (form : List ℕ) (q : CidParts) (qs : List CidParts) → Among q qs → form ≡ cid_bytes q → Among form (forms qs)
among_forms form q qs m e = subst (λ f. Among f (forms qs)) (sym e) (among_map cid_bytes q qs m)

-- ---- the order of CIDs

self_equal : (o : Ordering) → o ≡ ordering_reverse o → o ≡ Equal
self_equal Less e = absurd (cc e)
self_equal Equal e = refl
self_equal Greater e = absurd (cc e)

then_equal : (a b : Ordering) → a ≡ Equal → b ≡ Equal → ordering_then a b ≡ Equal
then_equal a b e f = ap (λ o. ordering_then o b) e ∙ f

pub number_equal : (n : ℕ) → nat_cmp n n ≡ Equal
number_equal n = self_equal (nat_cmp n n) (nat_cmp_total.antisymm n n)

pub cid_equal : (q : CidParts) → cid_cmp q q ≡ Equal
cid_equal q = then_equal _ _ (number_equal q.version) (then_equal _ _ (number_equal q.codec) (then_equal _ _ (number_equal q.hash_code) (self_equal (slice_cmp nat_cmp q.digest q.digest) (nat_list_cmp_total.antisymm q.digest q.digest))))

pub at_same : (q k : CidParts) → is_at (cid_cmp q) k ≡ true → q ≡ k
at_same q k h = same_cid q k (is_equal (cid_cmp q k) h)

pub same_at : (q k : CidParts) → q ≡ k → is_at (cid_cmp q) k ≡ true
same_at q k e = ap is_eq (ap (cid_cmp q) (sym e) ∙ cid_equal q)

pub any_among : (q : CidParts) (ks : List CidParts) → list_any (is_at (cid_cmp q)) ks ≡ true → Among q ks
any_among q [] h = absurd (cc h)
any_among q (k ∷ ks) h = by (is_at (cid_cmp q) k) refl h (λ m. any_among q ks m)
  where
    by : (b : Bool) → is_at (cid_cmp q) k ≡ b → (b || list_any (is_at (cid_cmp q)) ks) ≡ true → (list_any (is_at (cid_cmp q)) ks ≡ true → Among q ks) → Among q (k ∷ ks)
    by true t m f = inl (at_same q k t)
    by false t m f = inr (f m)

pub among_any : (q : CidParts) (ks : List CidParts) → Among q ks → list_any (is_at (cid_cmp q)) ks ≡ true
among_any q [] h = absurd h
among_any q (k ∷ ks) (inl e) = ap (λ b. b || list_any (is_at (cid_cmp q)) ks) (same_at q k e)
among_any q (k ∷ ks) (inr h) = by (is_at (cid_cmp q) k) (among_any q ks h)
  where
    by : (b : Bool) → list_any (is_at (cid_cmp q)) ks ≡ true → (b || list_any (is_at (cid_cmp q)) ks) ≡ true
    by true m = refl
    by false m = m

-- ---- one CID more

-- the new set has this CID or not, as `is` says, and each other CID as the old set has it
abbrev Changes : Bool → CidParts → CidSet → CidSet → Type 0
Changes is c old new = (q : CidParts) → set.contains cid_cmp new.cids q ≡ cond (is_at (cid_cmp c) q) is (set.contains cid_cmp old.cids q)

pub cid_added : (c : CidParts) (old new : CidSet) → AreCidParts c → Changes true c old new → AddsCid c old new
cid_added c old new valid put = (
  valid,
  λ q. (
    λ m. there q (is_at (cid_cmp c) q) refl (sym (put q) ∙ among_any q (members new) m),
    λ h. any_among q (members new) (put q ∙ back q h),
  ),
)
  where
    there : (q : CidParts) (b : Bool) → is_at (cid_cmp c) q ≡ b → cond b true (set.contains cid_cmp old.cids q) ≡ true → Among q (members old) ⊎ (q ≡ c)
    there q true t m = inr (sym (at_same c q t))
    there q false t m = inl (any_among q (members old) m)

    kept : (b : Bool) {x : Bool} → x ≡ true → cond b true x ≡ true
    kept true e = refl
    kept false e = e

    back : (q : CidParts) → Among q (members old) ⊎ (q ≡ c) → cond (is_at (cid_cmp c) q) true (set.contains cid_cmp old.cids q) ≡ true
    back q (inl m) = kept (is_at (cid_cmp c) q) (among_any q (members old) m)
    back q (inr u) = ap (λ b. cond b true (set.contains cid_cmp old.cids q)) (same_at c q (sym u))

-- ---- one CID less

pub cid_removed : (c : CidParts) (old new : CidSet) → Changes false c old new → RemovesCid c old new
cid_removed c old new cut q = (
  λ m. there (is_at (cid_cmp c) q) refl (sym (cut q) ∙ among_any q (members new) m),
  λ m. any_among q (members new) (cut q ∙ back (is_at (cid_cmp c) q) refl m),
)
  where
    not_same : is_at (cid_cmp c) q ≡ false → q ≡ c → ⊥
    not_same f e = let clash : true ≡ false = sym (same_at c q (sym e)) ∙ f in absurd (cc clash)

    there : (b : Bool) → is_at (cid_cmp c) q ≡ b → cond b false (set.contains cid_cmp old.cids q) ≡ true → Among q (members old) × (q ≡ c → ⊥)
    there true t m = absurd (cc m)
    there false t m = (any_among q (members old) m, not_same t)

    back : (b : Bool) → is_at (cid_cmp c) q ≡ b → Among q (members old) × (q ≡ c → ⊥) → cond b false (set.contains cid_cmp old.cids q) ≡ true
    back true t m = absurd (m.1 (sym (at_same c q t)))
    back false t m = among_any q (members old) m.0
