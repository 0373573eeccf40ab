-- The links that lead to no block of a store.
use Rattle.std.proofs.Common.{◌≡◌, ◌⊎◌, inl, inr, ℕ, zero, suc, ◌+◌, ◌<◌, ◌≤◌, List, [], ◌∷◌, ◌++◌, length, get_or, take, Bool, true, false, cond, refl, sym, ap, ◌∙◌, subst, arith, add-one, ◌↔◌, Option, None, Vec, Result, Ok, Err, OnOk, Global, BTreeSet, take-suc}
use Rattle.std.specs.List.Sorted.{IsStrictlySortedBy}
use Rattle.std.specs.BTreeMap.{is_at}
use Rattle.std.specs.BTreeSet as set
use Rattle.std.proofs.Math.Seq.{take-length}
use Rattle.sqlite_trees.specs.View.{View}
use Rattle.ipld_tree.specs.Cid.{CidParts, cid_bytes, cid_cmp}
use Rattle.ipld_tree.proofs.Cids.{cid_unique}
use Rattle.dagcbor_items.specs.Walks.{forms}
use Rattle.files_car.specs.Car.{Section}
use Rattle.ipld_links.specs.Blocks.{HasLinks, HasKnownLinks, IsReadCodec, IsBlockOf}
use Rattle.ipld_links.proofs.Rows.{one_links}
use Rattle.ipld_links.proofs.Linking.{linked_read}
use Rattle.ipld_links.specs.Sets.{Among}
use Rattle.ipld_links.specs.Within.{IsReached, IsReachedName, AreNamesOf}
use Rattle.ipld_links.proofs.Within.{reached_cid, not_inline}
use Rattle.ipld_links.proofs.Members.{at_same, same_at, any_among, among_any, among_push, push_among, among_map, map_among}
use Rattle.sqlite_trees.specs.Tree.{Trees}
use Rattle.store_rows.specs.Rows.{name_tree, IsListed}
use Rattle.store_on_disk.specs.Stored.{ListsName, GivesNextName, IsSame}
use Rattle.store_on_disk.specs.Walking.{AreBlocks}
use Rattle.store_on_disk.specs.Lost.{IsLinked, NamesNoneListed, ListsLostLinks, AddsUnlisted, AddsNames, AddsLost, AddsOf, GrowsByLost, IsReachedIn}
use Rattle.store_on_disk.proofs.Walking.{IsWalked, all_blocks}

-- ---- one name

pub name_put : (v : View) (name : CidParts) (old new : BTreeSet CidParts) → (ListsName v name → ⊥) → ((q : CidParts) → set.contains cid_cmp new q ≡ cond (is_at (cid_cmp name) q) true (set.contains cid_cmp old q)) → AddsUnlisted v name old new
name_put v name old new none put q = (
  λ m. there (is_at (cid_cmp name) q) refl (sym (put q) ∙ among_any q new.keys m),
  λ h. any_among q new.keys (put q ∙ back h),
)
  where
    there : (b : Bool) → is_at (cid_cmp name) q ≡ b → cond b true (set.contains cid_cmp old q) ≡ true → Among q old.keys ⊎ ((q ≡ name) × (ListsName v q → ⊥))
    there true t m = let same = at_same name q t in inr (sym same, λ l. none (subst (ListsName v) (sym same) l))
    there false t m = inl (any_among q old.keys m)

    kept : (b : Bool) {x : Bool} → x ≡ true → cond b true x ≡ true
    kept true e = refl
    kept false e = e

    back : Among q old.keys ⊎ ((q ≡ name) × (ListsName v q → ⊥)) → cond (is_at (cid_cmp name) q) true (set.contains cid_cmp old q) ≡ true
    back (inl m) = kept (is_at (cid_cmp name) q) (among_any q old.keys m)
    back (inr u) = ap (λ b. cond b true (set.contains cid_cmp old q)) (same_at name q (sym u.0))

-- a set that got one name, or none
pub grows_put : (name : CidParts) (old new : BTreeSet CidParts) → ((q : CidParts) → set.contains cid_cmp new q ≡ cond (is_at (cid_cmp name) q) true (set.contains cid_cmp old q)) → GrowsByLost (λ q. q ≡ name) old new
grows_put name old new put q = (
  λ m. any_among q new.keys (put q ∙ kept (is_at (cid_cmp name) q) (among_any q old.keys m)),
  λ m. there (is_at (cid_cmp name) q) refl (sym (put q) ∙ among_any q new.keys m),
)
  where
    kept : (b : Bool) {x : Bool} → x ≡ true → cond b true x ≡ true
    kept true e = refl
    kept false e = e

    there : (b : Bool) → is_at (cid_cmp name) q ≡ b → cond b true (set.contains cid_cmp old q) ≡ true → Among q old.keys ⊎ (q ≡ name)
    there true t m = inr (sym (at_same name q t))
    there false t m = inl (any_among q old.keys m)

pub grows_none : (IsSuch : CidParts → Type 0) (s : BTreeSet CidParts) → GrowsByLost IsSuch s s
grows_none IsSuch s q = (λ m. m, λ m. inl m)

pub grows_more : (P Q R : CidParts → Type 0) (old mid new : BTreeSet CidParts) → ((q : CidParts) → P q → R q) → ((q : CidParts) → Q q → R q) → GrowsByLost P old mid → GrowsByLost Q mid new → GrowsByLost R old new
grows_more P Q R old mid new f g first next q = (
  λ m. (next q).0 ((first q).0 m),
  λ m. elim ((next q).1 m) [ inl was ↦ elim ((first q).1 was) [ inl o ↦ inl o | inr p ↦ inr (f q p) ] | inr p ↦ inr (g q p) ],
)

pub item_among : {X : Type 0} (xs : List X) (i : ℕ) (x : X) → i < length xs → x ≡ get_or xs i x → Among x xs
item_among [] i x within is = absurd (omega (arith, within))
item_among (y ∷ ys) zero x within is = inl is
item_among (y ∷ ys) (suc i) x within is = inr (item_among ys i x (omega (arith, within)) is)

-- ---- many names

pub names_none : (v : View) (s : BTreeSet CidParts) → AddsNames v [] s s
names_none v s q = (inl, λ h. elim h [ inl m ↦ m | inr u ↦ absurd u.0 ])

names_push : (v : View) (names : List CidParts) (name : CidParts) (old mid new : BTreeSet CidParts) → AddsNames v names old mid → AddsUnlisted v name mid new → AddsNames v (names ++ name ∷ []) old new
names_push v names name old mid new h one q = (
  λ m. elim ((one q).0 m) [
    | inl n ↦ elim ((h q).0 n) [ inl o ↦ inl o | inr u ↦ inr (push_among q names name (inl u.0), u.1) ]
    | inr u ↦ inr (push_among q names name (inr u.0), u.1)
  ],
  λ m. elim m [
    | inl o ↦ (one q).1 (inl ((h q).1 (inl o)))
    | inr u ↦ elim (among_push q names name u.0) [
      | inl n ↦ (one q).1 (inl ((h q).1 (inr (n, u.1))))
      | inr e ↦ (one q).1 (inr (e, u.1))
    ]
  ],
)

pub names_next : (v : View) (names : List CidParts) (i : ℕ) (name : CidParts) (old mid new : BTreeSet CidParts) → i < length names → name ≡ get_or names i name → AddsNames v (take i names) old mid → AddsUnlisted v name mid new → AddsNames v (take (i + 1) names) old new
names_next v names i name old mid new within is h one =
    let more : take i names ++ name ∷ [] ≡ take (i + 1) names = ap (λ y. take i names ++ y ∷ []) is ∙ sym (take-suc names i name within) ∙ ap (λ n. take n names) (sym (add-one i)) in
    subst (λ ns. AddsNames v ns old new) more (names_push v (take i names) name old mid new h one)

pub names_all : (v : View) (names : List CidParts) (i : ℕ) (old new : BTreeSet CidParts) → i ≤ length names → length names ≤ i → AddsNames v (take i names) old new → AddsNames v names old new
names_all v names i old new below end h =
    let same : i ≡ length names = omega (arith, below, end) in
    subst (λ ns. AddsNames v ns old new) (ap (λ n. take n names) same ∙ take-length names) h

-- ---- the links of a block

pub adds_lost : (v : View) (codec : ℕ) (b : List ℕ) (names : List CidParts) (old new : BTreeSet CidParts) → AreNamesOf codec b names → AddsNames v names old new → AddsLost v codec b old new
adds_lost v codec b names old new first added q = (
  λ m. elim ((added q).0 m) [ inl o ↦ inl o | inr u ↦ inr ((first.0, first.1, (first.2 q).0 u.0), u.1) ],
  λ m. elim m [
    | inl o ↦ (added q).1 (inl o)
    | inr u ↦ (added q).1 (inr ((first.2 q).1 (subst (IsReachedName q) (one_links codec b u.0.0 first.0 u.0.1 first.1) u.0.2), u.1))
  ],
)

pub grows_linked : (codec : ℕ) (b : List ℕ) (names : List CidParts) (old new : BTreeSet CidParts) → AreNamesOf codec b names → GrowsByLost (λ q. Among q names) old new → GrowsByLost (IsReachedIn codec b) old new
grows_linked codec b names old new first grown q = ((grown q).0, λ m. elim ((grown q).1 m) [ inl o ↦ inl o | inr u ↦ inr (first.0, first.1, (first.2 q).0 u) ])

-- ---- the walk

-- a link in one of the blocks leads to the name
abbrev pub LeadsTo : List Section → CidParts → Type 0
LeadsTo ss q = (s : Section) × Among s ss × IsReachedIn s.0.codec s.1 q

-- the set has the names that links in these blocks lead to which are not listed
abbrev pub LostOf : View → List Section → BTreeSet CidParts → Type 0
LostOf v ss s = (q : CidParts) → Among q s.keys ↔ (LeadsTo ss q × (ListsName v q → ⊥))

pub lost_none : (v : View) (s : BTreeSet CidParts) → s.keys ≡ [] → LostOf v [] s
lost_none v s none q = (λ m. absurd (subst (Among q) none m), λ h. absurd h.0.1)

lost_more : (v : View) (ss : List Section) (c : CidParts) (b : List ℕ) (old new : BTreeSet CidParts) → LostOf v ss old → AddsLost v c.codec b old new → LostOf v (ss ++ (c, b) ∷ []) new
lost_more v ss c b old new h added q = (
  λ m. elim ((added q).0 m) [
    | inl o ↦ let k = (h q).0 o in ((k.0.0, push_among k.0.0 ss (c, b) (inl k.0.1), k.0.2), k.1)
    | inr u ↦ (((c, b), push_among (c, b) ss (c, b) (inr refl), u.0), u.1)
  ],
  λ k. elim (among_push k.0.0 ss (c, b) k.0.1) [
    | inl m ↦ (added q).1 (inl ((h q).1 ((k.0.0, m, k.0.2), k.1)))
    | inr e ↦ (added q).1 (inr (subst (λ (s : Section). IsReachedIn s.0.codec s.1 q) e k.0.2, k.1))
  ],
)

lost_skip : (v : View) (ss : List Section) (c : CidParts) (b : List ℕ) (s : BTreeSet CidParts) → LostOf v ss s → (IsReadCodec c.codec → ⊥) → LostOf v (ss ++ (c, b) ∷ []) s
lost_skip v ss c b s h other q = (
  λ m. let k = (h q).0 m in ((k.0.0, push_among k.0.0 ss (c, b) (inl k.0.1), k.0.2), k.1),
  λ k. elim (among_push k.0.0 ss (c, b) k.0.1) [
    | inl m ↦ (h q).1 ((k.0.0, m, k.0.2), k.1)
    | inr e ↦ absurd (other (linked_read c.codec b k.0.2.0 (subst (λ (s : Section). HasLinks s.0.codec s.1 k.0.2.0) e k.0.2.1)))
  ],
)

pub lost_push : (v : View) (ss : List Section) (c : CidParts) (b : List ℕ) (old new : BTreeSet CidParts) → LostOf v ss old → AddsOf v c b old new → LostOf v (ss ++ (c, b) ∷ []) new
lost_push v ss c b old new h (inl a) = lost_more v ss c b old new h a.1
lost_push v ss c b old new h (inr a) = subst (LostOf v (ss ++ (c, b) ∷ [])) (sym a.1) (lost_skip v ss c b old h a.0)

pub lists_lost : (v : View) (last : Option CidParts) (ss : List Section) (s : BTreeSet CidParts) (links : Vec CidParts Global) → IsWalked v last ss → GivesNextName v last None → LostOf v ss s → IsStrictlySortedBy cid_cmp links.items × (links.items ≡ s.keys) → ListsLostLinks v links.items
lists_lost v last ss s links walked none h listed = (listed.0, λ form. (there form, back form))
  where
    blocks : AreBlocks v ss
    blocks = all_blocks v last ss walked none

    there : (form : List ℕ) → Among form (forms links.items) → IsLinked form v × NamesNoneListed form v
    there form m =
        let k = map_among cid_bytes form links.items m in
        let w = (h k.0).0 (subst (Among k.0) listed.1 k.1) in
        let t = w.0.2 in
        subst (λ f. IsLinked f v × NamesNoneListed f v) (sym k.2)
        ((w.0.0.0, w.0.0.1, t.0, walked.valid w.0.0 w.0.1, (walked.stored w.0.0 w.0.1).0, t.1, t.2.2), (not_inline (cid_bytes k.0) k.0 t.2.0 t.2.1 refl, w.1))

    back : (form : List ℕ) → IsLinked form v × NamesNoneListed form v → Among form (forms links.items)
    back form m =
        let l = m.0 in
        let c = reached_cid l.0.codec l.1 l.2 form l.5 l.6 in
        let at = (blocks.stored (cid_bytes l.0) l.1).1 l.4 in
        let name = cid_unique at.0.0 l.0 (walked.valid at.0 at.1) l.3 at.2 in
        let is = subst (λ f. NamesNoneListed f v) c.2 m.1 in
        let found = (h c.0).1 ((at.0, at.1, (l.2, subst (λ (n : CidParts). HasLinks n.codec at.0.1 l.2) (sym name) (subst (λ b. HasLinks l.0.codec b l.2) (sym at.3) l.5), (c.1, λ i. is.0 (c.0, c.1, refl, i), subst (λ f. IsReached f l.2) c.2 l.6))), is.1) in
        subst (λ f. Among f (forms links.items)) (sym c.2) (among_map cid_bytes c.0 links.items (subst (Among c.0) (sym listed.1) found))

-- ---- the same view

pub name_same : (old mid : View) (name : CidParts) (s t : BTreeSet CidParts) → IsSame old mid → AddsUnlisted mid name s t → AddsUnlisted old name s t
name_same old mid name s t same h = subst (λ (u : Trees). (q : CidParts) → Among q t.keys ↔ (Among q s.keys ⊎ ((q ≡ name) × (IsListed (u name_tree) (cid_bytes q) → ⊥)))) same.trees h

pub lost_same : (old mid : View) (codec : ℕ) (b : List ℕ) (s t : BTreeSet CidParts) → IsSame old mid → AddsLost mid codec b s t → AddsLost old codec b s t
lost_same old mid codec b s t same h = subst (λ (u : Trees). (q : CidParts) → Among q t.keys ↔ (Among q s.keys ⊎ (IsReachedIn codec b q × (IsListed (u name_tree) (cid_bytes q) → ⊥)))) same.trees h

pub adds_same : (old mid : View) (c : CidParts) (b : List ℕ) (s t : BTreeSet CidParts) → IsSame old mid → AddsOf mid c b s t → AddsOf old c b s t
adds_same old mid c b s t same (inl a) = inl (a.0, lost_same old mid c.codec b s t same a.1)
adds_same old mid c b s t same (inr a) = inr a

-- ---- calls

pub on_ok_clean : {X E : Type 0} (r : Result X E) (C P Q : Type 0) → OnOk r (C → P) → (P → Q) → OnOk r (C → Q)
on_ok_clean (Ok x) C P Q h f = λ clean. f (h clean)
on_ok_clean (Err e) C P Q h f = tt

pub linked_unless : (codec : ℕ) (b : List ℕ) → HasKnownLinks codec b → (codec ≡ 0x55 → ⊥) → IsBlockOf codec b
linked_unless codec b (inl raw) other = absurd (other raw)
linked_unless codec b (inr linked) other = linked
