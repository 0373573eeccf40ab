-- The names that a file holds.
use Rattle.std.proofs.Common.{◌≡◌, ◌⊎◌, inl, inr, ℕ, zero, suc, ◌<◌, ◌≤◌, arith, nat_le, Bool, true, false, List, [], ◌∷◌, ◌++◌, length, take, Option, None, Some, slice_get, if◌then◌else◌, refl, sym, ap, ◌∙◌, subst, ◌↔◌, Result, Ok, Err, OnOk, nat_cmp, is_eq, Equal, le-leb, leb-true}
use Rattle.std.specs.Int.{w64, from_le_bytes}
use Rattle.std.specs.Option.{unwrap_or}
use Rattle.std.specs.BTreeMap.{get, is_at}
use Rattle.std.proofs.lemmas.Cmp.{ranked}
use Rattle.ipld_tree.specs.Cid.{CidParts, AreCidParts}
use Rattle.ipld_tree.specs.CidHash.{is_equal}
use Rattle.ipld_links.specs.Sets.{Among, members, AddsCid}
use Rattle.ipld_links.specs.Held.{front, name_at, name_in_row, IsHeldName, AddsName}
use Rattle.ipld_links.specs.Within.{AddsUnheld}
use Rattle.ipld_links.specs.declared.cid_set.CidSet.{CidSet}
use Rattle.ipld_links.specs.declared.held.HeldNames.{HeldNames}
use Rattle.ipld_links.proofs.Members.{number_equal}

-- ---- fronts

pub front_told : (d : List ℕ) → 8 ≤ length d → from_le_bytes w64 (take 8 d) ≡ front d
front_told d h = ap (λ b. if b then from_le_bytes w64 (take 8 d) else 0) (sym (le-leb 8 (length d) h))

pub front_short : (d : List ℕ) → length d < 8 → 0 ≡ front d
front_short d h = by (nat_le 8 (length d)) refl
  where
    by : (b : Bool) → nat_le 8 (length d) ≡ b → 0 ≡ (if b then from_le_bytes w64 (take 8 d) else 0)
    by true t = absurd (omega (arith, h, leb-true 8 (length d) t))
    by false t = refl

-- ---- rows

some_same : {X : Type 0} (x y : X) → Some x ≡ Some y → x ≡ y
some_same {X} x y e = ap value e
  where
    value : Option X → X
    value (Some z) = z
    value None = x

no_name : (c : CidParts) (o : Option CidParts) → o ≡ None → o ≡ Some c → ⊥
no_name c o none some = absurd (cc (sym none ∙ some))

at_end : (names : List CidParts) (c : CidParts) → slice_get (names ++ c ∷ []) (length names) ≡ Some c
at_end [] c = refl
at_end (x ∷ xs) c = at_end xs c

before_push : (names : List CidParts) (i : ℕ) (c q : CidParts) → slice_get (names ++ c ∷ []) i ≡ Some q → (slice_get names i ≡ Some q) ⊎ (q ≡ c)
before_push [] zero c q e = inr (sym (some_same c q e))
before_push [] (suc i) c q e = absurd (cc e)
before_push (x ∷ xs) zero c q e = inl e
before_push (x ∷ xs) (suc i) c q e = before_push xs i c q e

after_push : (names : List CidParts) (i : ℕ) (c q : CidParts) → slice_get names i ≡ Some q → slice_get (names ++ c ∷ []) i ≡ Some q
after_push [] i c q e = absurd (cc e)
after_push (x ∷ xs) zero c q e = e
after_push (x ∷ xs) (suc i) c q e = after_push xs i c q e

before_at : (names : List CidParts) (o : Option ℕ) (c q : CidParts) → name_at (names ++ c ∷ []) o ≡ Some q → (name_at names o ≡ Some q) ⊎ (q ≡ c)
before_at names None c q e = absurd (cc e)
before_at names (Some i) c q e = before_push names i c q e

after_at : (names : List CidParts) (o : Option ℕ) (c q : CidParts) → name_at names o ≡ Some q → name_at (names ++ c ∷ []) o ≡ Some q
after_at names None c q e = absurd (cc e)
after_at names (Some i) c q e = after_push names i c q e

-- ---- look-ups

-- the name with its front is this one
pub name_kept : (s : HeldNames) (n : ℕ) (name c : CidParts) → n ≡ front c.digest → name_in_row s n ≡ Some name → name ≡ c → IsHeldName c s
name_kept s n name c is found same = inl (subst (λ m. name_in_row s m ≡ Some c) is (found ∙ ap Some same))

-- the name with its front is another
pub other_kept : (s : HeldNames) (n : ℕ) (name c : CidParts) → n ≡ front c.digest → name_in_row s n ≡ Some name → (name ≡ c → ⊥) → IsHeldName c s → Among c (members s.others)
other_kept s n name c is found differs (inr m) = m
other_kept s n name c is found differs (inl e) = absurd (differs (some_same name c (sym found ∙ ap (name_in_row s) is ∙ e)))

-- ---- one name more

-- the places are unchanged
abbrev pub SamePlaces : HeldNames → HeldNames → Type 0
SamePlaces old new = (n : ℕ) → get nat_cmp new.places n ≡ get nat_cmp old.places n

-- the place that was asked for was another than the one offered
pub place_named : (o : Option ℕ) (p end : ℕ) → p ≡ unwrap_or o end → (p ≡ end → ⊥) → o ≡ Some p
place_named None p end e other = absurd (other e)
place_named (Some q) p end e other = ap Some (sym e)

-- no name stood there: the place is the one after the last
pub none_named : (s : HeldNames) (n p end : ℕ) → end ≡ length s.names.items → p ≡ unwrap_or (get nat_cmp s.places n) end → p ≡ end → name_in_row s n ≡ None
none_named s n p end long e at = by (get nat_cmp s.places n) e
  where
    past : (names : List CidParts) (i : ℕ) → i ≡ length names → slice_get names i ≡ None
    past [] i h = refl
    past (x ∷ xs) zero h = absurd (omega (arith, h))
    past (x ∷ xs) (suc i) h = past xs i (omega (arith, h))

    by : (o : Option ℕ) → p ≡ unwrap_or o end → name_at s.names.items o ≡ None
    by None f = refl
    by (Some q) f = past s.names.items q (sym f ∙ at ∙ long)

at_number : (n m : ℕ) → is_at (nat_cmp n) m ≡ true → n ≡ m
at_number n m t = ranked n m Equal (sym (is_equal (nat_cmp n m) t))

-- the place stood there: all of them stay
pub same_places : (old new : HeldNames) (n p : ℕ) → get nat_cmp old.places n ≡ Some p → get nat_cmp new.places n ≡ Some p → ((m : ℕ) → is_at (nat_cmp n) m ≡ false → get nat_cmp new.places m ≡ get nat_cmp old.places m) → SamePlaces old new
same_places old new n p before after elsewhere m = by (is_at (nat_cmp n) m) refl
  where
    by : (b : Bool) → is_at (nat_cmp n) m ≡ b → get nat_cmp new.places m ≡ get nat_cmp old.places m
    by true t = let same = at_number n m t in ap (λ k. get nat_cmp new.places k) (sym same) ∙ after ∙ sym before ∙ ap (λ k. get nat_cmp old.places k) same
    by false t = elsewhere m t

same_names : (old new : HeldNames) → new.names ≡ old.names → SamePlaces old new → (n : ℕ) → name_in_row new n ≡ name_in_row old n
same_names old new names places n = ap (λ ns. name_at ns.items (get nat_cmp new.places n)) names ∙ ap (name_at old.names.items) (places n)

-- it was there
pub name_there : (c : CidParts) (old new : HeldNames) (p : ℕ) → AreCidParts c → new.names ≡ old.names → SamePlaces old new → members new.others ≡ members old.others → get nat_cmp old.places (front c.digest) ≡ Some p → slice_get old.names.items p ≡ Some c → AddsName c old new
name_there c old new p valid names places others at here = (valid, λ q. (there q, back q))
  where
    there : (q : CidParts) → IsHeldName q new → IsHeldName q old ⊎ (q ≡ c)
    there q (inl e) = inl (inl (sym (same_names old new names places (front q.digest)) ∙ e))
    there q (inr m) = inl (inr (subst (Among q) others m))

    back : (q : CidParts) → IsHeldName q old ⊎ (q ≡ c) → IsHeldName q new
    back q (inl (inl e)) = inl (same_names old new names places (front q.digest) ∙ e)
    back q (inl (inr m)) = inr (subst (Among q) (sym others) m)
    back q (inr e) = inl (same_names old new names places (front q.digest) ∙ ap (λ (x : CidParts). name_in_row old (front x.digest)) e ∙ ap (name_at old.names.items) at ∙ here ∙ ap Some (sym e))

-- it joined the others
pub other_joined : {E : Type 0} (r : Result (Unit {0}) E) (c : CidParts) (old new : HeldNames) → new.names ≡ old.names → SamePlaces old new → OnOk r (AddsCid c old.others new.others) → OnOk r (AddsName c old new)
other_joined (Err e) c old new names places a = tt
other_joined (Ok u) c old new names places a = (a.0, λ q. (there q, back q))
  where
    there : (q : CidParts) → IsHeldName q new → IsHeldName q old ⊎ (q ≡ c)
    there q (inl e) = inl (inl (sym (same_names old new names places (front q.digest)) ∙ e))
    there q (inr m) = elim ((a.1 q).0 m) [ inl o ↦ inl (inr o) | inr e ↦ inr e ]

    back : (q : CidParts) → IsHeldName q old ⊎ (q ≡ c) → IsHeldName q new
    back q (inl (inl e)) = inl (same_names old new names places (front q.digest) ∙ e)
    back q (inl (inr m)) = inr ((a.1 q).1 (inl m))
    back q (inr e) = inr ((a.1 q).1 (inr e))

-- it joined the row
pub row_joined : (c : CidParts) (n : ℕ) (old new : HeldNames) → AreCidParts c → n ≡ front c.digest → name_in_row old n ≡ None → new.names.items ≡ old.names.items ++ c ∷ [] → get nat_cmp new.places n ≡ Some (length old.names.items)
    → ((m : ℕ) → is_at (nat_cmp n) m ≡ false → get nat_cmp new.places m ≡ get nat_cmp old.places m) → members new.others ≡ members old.others → AddsName c old new
row_joined c n old new valid is none names here elsewhere others = (valid, λ q. by q (is_at (nat_cmp n) (front q.digest)) refl)
  where
    moved : (q : CidParts) → Among q (members new.others) → Among q (members old.others)
    moved q m = subst (Among q) others m

    stays : (q : CidParts) → Among q (members old.others) → Among q (members new.others)
    stays q m = subst (Among q) (sym others) m

    row : (o : Option ℕ) → name_at new.names.items o ≡ name_at (old.names.items ++ c ∷ []) o
    row o = ap (λ ns. name_at ns o) names

    found : name_in_row new n ≡ Some c
    found = ap (name_at new.names.items) here ∙ row (Some (length old.names.items)) ∙ at_end old.names.items c

    by : (q : CidParts) (b : Bool) → is_at (nat_cmp n) (front q.digest) ≡ b → IsHeldName q new ↔ (IsHeldName q old ⊎ (q ≡ c))
    by q true t = (there, back)
      where
        at : name_in_row new (front q.digest) ≡ Some c
        at = ap (name_in_row new) (sym (at_number n (front q.digest) t)) ∙ found

        there : IsHeldName q new → IsHeldName q old ⊎ (q ≡ c)
        there (inl e) = inr (some_same q c (sym e ∙ at))
        there (inr m) = inl (inr (moved q m))

        back : IsHeldName q old ⊎ (q ≡ c) → IsHeldName q new
        back (inl (inl e)) = absurd (no_name q (name_in_row old n) none (ap (name_in_row old) (at_number n (front q.digest) t) ∙ e))
        back (inl (inr m)) = inr (stays q m)
        back (inr e) = inl (at ∙ ap Some (sym e))
    by q false t = (there, back)
      where
        at : name_in_row new (front q.digest) ≡ name_at (old.names.items ++ c ∷ []) (get nat_cmp old.places (front q.digest))
        at = row (get nat_cmp new.places (front q.digest)) ∙ ap (name_at (old.names.items ++ c ∷ [])) (elsewhere (front q.digest) t)

        there : IsHeldName q new → IsHeldName q old ⊎ (q ≡ c)
        there (inl e) = elim (before_at old.names.items (get nat_cmp old.places (front q.digest)) c q (sym at ∙ e)) [ inl k ↦ inl (inl k) | inr k ↦ inr k ]
        there (inr m) = inl (inr (moved q m))

        back : IsHeldName q old ⊎ (q ≡ c) → IsHeldName q new
        back (inl (inl e)) = inl (at ∙ after_at old.names.items (get nat_cmp old.places (front q.digest)) c q e)
        back (inl (inr m)) = inr (stays q m)
        back (inr e) =
            let mine : n ≡ front q.digest = is ∙ ap (λ (x : CidParts). front x.digest) (sym e) in
            let met : is_at (nat_cmp n) (front q.digest) ≡ true = ap (λ m. is_at (nat_cmp n) m) (sym mine) ∙ ap is_eq (number_equal n) in
            absurd (cc (sym met ∙ t))

-- ---- a set that gains a CID that is not held

pub unheld_added : {E : Type 0} (r : Result (Unit {0}) E) (c : CidParts) (held : HeldNames) (old new : CidSet) → (IsHeldName c held → ⊥) → OnOk r (AddsCid c old new) → OnOk r (AddsUnheld c held old new)
unheld_added (Err e) c held old new free a = tt
unheld_added (Ok u) c held old new free a = (
  a.0,
  λ q. (
    λ m. elim ((a.1 q).0 m) [ inl o ↦ inl o | inr e ↦ inr (e, λ k. free (subst (λ x. IsHeldName x held) e k)) ],
    λ h. elim h [ inl o ↦ (a.1 q).1 (inl o) | inr w ↦ (a.1 q).1 (inr w.0) ],
  ),
)
