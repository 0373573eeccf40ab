-- The names that links lead to from roots. A walk from each root finds those that are not known
-- yet.
use Rattle.std.proofs.Common.{◌≡◌, inl, inr, ℕ, zero, suc, ◌+◌, ◌≤◌, ◌<◌, List, [], ◌∷◌, ◌++◌, length, take, get_or, take-suc, Bool, true, false, true≢false, cond, refl, sym, ap, ◌∙◌, subst, arith, add-one, ◌⊎◌, ◌↔◌, Option, None, Some, is_some, option_map, Result, Ok, Err, IfOk, IfErr, IfSome, Vec, Global}
use Rattle.std.specs.BTreeSet.{BTreeSet}
use Rattle.std.specs.BTreeSet as set
use Rattle.std.proofs.Math.Seq.{take-length}
use Rattle.sqlite_trees.specs.Tree.{Trees}
use Rattle.sqlite_trees.specs.View.{View, IsClean}
use Rattle.sqlite_trees.specs.declared.store.Store.{Ghosts}
use Rattle.ipld_tree.specs.Cid.{CidParts, cid_bytes, cid_cmp}
use Rattle.ipld_tree.proofs.Fronts.{front_nonempty}
use Rattle.dagcbor_items.proofs.SliceReads.{whole_front}
use Rattle.ipld_links.specs.Blocks.{HasLinks}
use Rattle.ipld_links.specs.declared.verdict.Verdict.{Verdict}
use Rattle.ipld_links.specs.declared.reach.Reached.{Reached}
use Rattle.dag_pb.proofs.Reading.{empty_node_links}
use Rattle.ipld_links.specs.Sets.{Among}
use Rattle.ipld_links.specs.Reaching.{Stored, IsThere, KnowsLinks, HidesLinksUnder, LeadsTo, IsStepsFrom, LeadsFar}
use Rattle.ipld_links.proofs.Members.{any_among, among_any, among_push, push_among}
use Rattle.store_rows.specs.Rows.{name_tree, IsListed}
use Rattle.store_rows.specs.Ends.{Quiet}
use Rattle.store_on_disk.specs.Stored.{HoldsOnly, IsNamedBy, GetsSome, ListsName, IsDamaged, IsSame, FailsByStore}
use Rattle.store_on_disk.specs.Trees.{ShowsStored, OfStored, GetsKnown, IsKnown, HidesLinksOf, Place, StopsAt, AtMetBeside, Reaches, ReachRefused, IsShownToWalk, Fits, IsKnownBeside, ReachesBeside}
use Rattle.store_on_disk.specs.Collecting.{IsRooted, HasBlockAt, HaveBlocks, BlocksLacking, AtRooted, AtMarked, CollectsAll, Marks, MarksRoots, MarksMore, CollectRefused}
use Rattle.store_on_disk.specs.declared.error.StoreRefusal.{StoreRefusal}
use Rattle.store_on_disk.specs.declared.error.StoreRefusal.TheVariants as refusal
use Rattle.store_on_disk.proofs.Trees.{got_stored, shows_same}
use Rattle.store_on_disk.proofs.Adding.{last_same, fails_after}
use Rattle.store_on_disk.proofs.Walking.{holds_same, damaged_same, same_then, not_damaged, not_unread, not_lacking}

-- ---- what is stored, and what else is shown

among_dec : (kept : BTreeSet CidParts) (q : CidParts) → Dec (Among q kept.keys)
among_dec kept q = by (set.contains cid_cmp kept q) refl
  where
    by : (b : Bool) → set.contains cid_cmp kept q ≡ b → Dec (Among q kept.keys)
    by true t = yes (any_among q kept.keys t)
    by false f = no (λ m. true≢false (sym (among_any q kept.keys m) ∙ f))

-- empty bytes for the names in the set
abbrev beside : BTreeSet CidParts → Stored → Stored
beside kept stored q = cond (set.contains cid_cmp kept q) (Some []) (stored q)

beside_in : (kept : BTreeSet CidParts) (stored : Stored) (q : CidParts) → Among q kept.keys → beside kept stored q ≡ Some []
beside_in kept stored q m = ap (λ b. cond b (Some []) (stored q)) (among_any q kept.keys m)

beside_out : (kept : BTreeSet CidParts) (stored : Stored) (q : CidParts) → (Among q kept.keys → ⊥) → beside kept stored q ≡ stored q
beside_out kept stored q none = by (set.contains cid_cmp kept q) refl
  where
    by : (b : Bool) → set.contains cid_cmp kept q ≡ b → cond b (Some []) (stored q) ≡ stored q
    by true t = absurd (none (any_among q kept.keys t))
    by false f = refl

-- ---- links

-- the links of a name are those of what is stored under it
leads_as : (s t : Stored) (name next : CidParts) → s name ≡ t name → LeadsTo s name next → LeadsTo t name next
leads_as s t name next e l = (l.0, (l.1.0, (l.1.1.0, elim l.1.1.1 [ inl is ↦ inl (sym e ∙ is) | inr n ↦ inr (sym e ∙ n.0, n.1, n.2) ], l.1.1.2), l.1.2))

-- empty bytes are not an item, but are a node without links
no_bytes : (codec : ℕ) (links : List (List ℕ)) (form : List ℕ) → HasLinks codec [] links → Among form links → ⊥
no_bytes codec links form (inl (c, (t, h, e))) m = front_nonempty [] t (whole_front h.0)
no_bytes codec links form (inr (c, (n, h, e))) m = subst (Among form) (e ∙ empty_node_links n h) m

pub led_on : (stored : Stored) (roots : List CidParts) (mid name : CidParts) → IsRooted stored roots mid → LeadsTo stored mid name → IsRooted stored roots name
led_on stored roots mid name l k = (l.0, l.1, (suc l.2.0, (mid, l.2.1, k)))

-- ---- what fits

got_known : (v : View) (stored : Stored) (name : CidParts) (o : Option (List ℕ)) → ShowsStored v stored → GetsKnown v name o → stored name ≡ o
got_known v stored name None shows g = got_stored v stored name None shows g.0
got_known v stored name (Some b) shows g = got_stored v stored name (Some b) shows g.0

pub known_there : (v : View) (stored : Stored) (name : CidParts) → ShowsStored v stored → IsKnown v name → ListsName v name → IsThere stored name
known_there v stored name shows (None, g) listed = absurd (g.0 listed)
known_there v stored name shows (Some b, g) listed = ap is_some (got_known v stored name (Some b) shows g)

pub known_beside : (v : View) (kept : BTreeSet CidParts) (name : CidParts) (o : Option (List ℕ)) → IsShownToWalk v kept name o → IsKnownBeside v kept name
known_beside v kept name o (inl h) = inl h.0
known_beside v kept name o (inr h) = inr (o, h.1)

beside_fits : (v : View) (kept : BTreeSet CidParts) (stored : Stored) → ShowsStored v stored → Fits v kept (beside kept stored)
beside_fits v kept stored shows name o (inl h) = beside_in kept stored name h.0 ∙ sym h.1
beside_fits v kept stored shows name o (inr h) = beside_out kept stored name h.0 ∙ got_known v stored name o shows h.1

-- ---- steps

module _ (stored : Stored) (root : CidParts) (kept : BTreeSet CidParts) where
  dead_end : (a b : CidParts) → Among a kept.keys → LeadsTo (beside kept stored) a b → ⊥
  dead_end a b m l = elim l.1.1.1 [
    | inl is ↦ no_bytes a.codec l.1.0 (cid_bytes b) (subst (λ x. HasLinks a.codec x l.1.0) (let e : Some l.1.1.0 ≡ Some [] = sym is ∙ beside_in kept stored a m in cc e) l.1.1.2) l.1.2
    | inr n ↦ (let e : None ≡ Some [] = sym n.0 ∙ beside_in kept stored a m in absurd (cc e))
  ]

  back : (n : ℕ) (q : CidParts) → IsStepsFrom (beside kept stored) root n q → IsStepsFrom stored root n q
  back zero q e = e
  back (suc n) q k = (k.0, back n k.0 k.1, leads_as (beside kept stored) stored k.0 q (beside_out kept stored k.0 (λ m. dead_end k.0 q m k.2)) k.2)

  module _ (roots : List CidParts) (known : (q : CidParts) → Among q kept.keys → IsRooted stored roots q) where
    -- links lead to the name from the earlier roots, or on a walk that skips the set
    forth : (n : ℕ) (q : CidParts) → IsStepsFrom stored root n q → IsRooted stored roots q ⊎ IsStepsFrom (beside kept stored) root n q
    forth zero q e = inr e
    forth (suc n) q k = elim (forth n k.0 k.1) [ inl led ↦ inl (led_on stored roots k.0 q led k.2) | inr s ↦ by s (among_dec kept k.0) ]
      where
        by : IsStepsFrom (beside kept stored) root n k.0 → Dec (Among k.0 kept.keys) → IsRooted stored roots q ⊎ IsStepsFrom (beside kept stored) root (suc n) q
        by s (yes m) = inl (led_on stored roots k.0 q (known k.0 m) k.2)
        by s (no out) = inr (k.0, s, leads_as stored (beside kept stored) k.0 q (sym (beside_out kept stored k.0 out)) k.2)

-- ---- one root more

led_wider : (stored : Stored) (roots : List CidParts) (root q : CidParts) → IsRooted stored roots q → IsRooted stored (roots ++ root ∷ []) q
led_wider stored roots root q l = (l.0, push_among l.0 roots root (inl l.1), l.2)

led_last : (stored : Stored) (roots : List CidParts) (root q : CidParts) → LeadsFar stored root q → IsRooted stored (roots ++ root ∷ []) q
led_last stored roots root q far = (root, push_among root roots root (inr refl), far)

led_either : (stored : Stored) (roots : List CidParts) (root q : CidParts) → IsRooted stored (roots ++ root ∷ []) q → IsRooted stored roots q ⊎ LeadsFar stored root q
led_either stored roots root q l = elim (among_push l.0 roots root l.1) [ inl m ↦ inl (l.0, m, l.2) | inr e ↦ inr (subst (λ r. LeadsFar stored r q) e l.2) ]

pub marks_none : (v : View) (kept : BTreeSet CidParts) → kept.keys ≡ [] → Marks v [] kept
marks_none v kept none stored shows name = ((λ m. absurd (subst (Among name) none m), λ h. absurd h.1.1), λ l. absurd l.1)

module _ (v : View) (old new : BTreeSet CidParts) (root : CidParts) (reached : Reached) (roots : List CidParts) (finds : ReachesBeside v old root reached) (adds : CollectsAll reached.found.items old new) (marks : Marks v roots old) where
  module _ (stored : Stored) (shows : ShowsStored v stored) where
    fits : Fits v old (beside old stored)
    fits = beside_fits v old stored shows

    known : (q : CidParts) → Among q old.keys → IsRooted stored roots q
    known q m = ((marks stored shows q).0.0 m).1

    from_beside : (q : CidParts) → IsThere (beside old stored) q → IsThere stored q
    from_beside q there = by (among_dec old q)
      where
        by : Dec (Among q old.keys) → IsThere stored q
        by (yes m) = ((marks stored shows q).0.0 m).0
        by (no out) = ap is_some (sym (beside_out old stored q out)) ∙ there

    to_beside : (q : CidParts) → IsThere stored q → IsThere (beside old stored) q
    to_beside q there = by (among_dec old q)
      where
        by : Dec (Among q old.keys) → IsThere (beside old stored) q
        by (yes m) = ap is_some (beside_in old stored q m)
        by (no out) = ap is_some (beside_out old stored q out) ∙ there

    marked : (q : CidParts) → Among q new.keys → IsThere stored q × IsRooted stored (roots ++ root ∷ []) q
    marked q m = elim ((adds q).0 m) [
      | inl o ↦ let k = (marks stored shows q).0.0 o in (k.0, led_wider stored roots root q k.1)
      | inr f ↦ let k = ((finds (beside old stored) fits).0.lists.all q).0 f in (from_beside q k.0, led_last stored roots root q (k.1.0, back stored root old k.1.0 q k.1.1))
    ]

    all_marked : (q : CidParts) → IsThere stored q × IsRooted stored (roots ++ root ∷ []) q → Among q new.keys
    all_marked q h = elim (led_either stored roots root q h.1) [
      | inl led ↦ (adds q).1 (inl ((marks stored shows q).0.1 (h.0, led)))
      | inr far ↦ elim (forth stored root old roots known far.0 q far.1) [
        | inl led ↦ (adds q).1 (inl ((marks stored shows q).0.1 (h.0, led)))
        | inr st ↦ (adds q).1 (inr (((finds (beside old stored) fits).0.lists.all q).1 (to_beside q h.0, (far.0, st))))
      ]
    ]

    all_known : (q : CidParts) → IsRooted stored (roots ++ root ∷ []) q → IsKnown v q
    all_known q l = elim (led_either stored roots root q l) [
      | inl led ↦ (marks stored shows q).1 led
      | inr far ↦ elim (forth stored root old roots known far.0 q far.1) [
        | inl led ↦ (marks stored shows q).1 led
        | inr st ↦ elim ((finds (beside old stored) fits).2 q (far.0, st)) [ inl m ↦ (marks stored shows q).1 (known q m) | inr k ↦ k ]
      ]
    ]

  pub marks_more : Marks v (roots ++ root ∷ []) new
  marks_more stored shows name = ((marked stored shows name, all_marked stored shows name), all_known stored shows name)

-- links lead to the name that a walk came to
pub leads_beside : (v : View) (kept : BTreeSet CidParts) (root name : CidParts) (stored : Stored) → ShowsStored v stored → ((s : Stored) → Fits v kept s → LeadsFar s root name) → LeadsFar stored root name
leads_beside v kept root name stored shows far =
    let k = far (beside kept stored) (beside_fits v kept stored shows) in
    (k.0, back stored root kept k.0 name k.1)

-- ---- many roots

pub marks_next : (v : View) (roots : List CidParts) (i : ℕ) (root : CidParts) (old new : BTreeSet CidParts) → i < length roots → root ≡ get_or roots i root → Marks v (take i roots) old → MarksMore v root old new → Marks v (take (i + 1) roots) new
marks_next v roots i root old new within is h more =
    let longer : take i roots ++ root ∷ [] ≡ take (i + 1) roots = ap (λ y. take i roots ++ y ∷ []) is ∙ sym (take-suc roots i root within) ∙ ap (λ n. take n roots) (sym (add-one i)) in
    subst (λ rs. Marks v rs new) longer (more (take i roots) h)

pub marks_all : (v : View) (roots : List CidParts) (i : ℕ) (kept : BTreeSet CidParts) → i ≤ length roots → length roots ≤ i → Marks v (take i roots) kept → Marks v roots kept
marks_all v roots i kept below end h =
    let same : i ≡ length roots = omega (arith, below, end) in
    subst (λ rs. Marks v rs kept) (ap (λ n. take n roots) same ∙ take-length roots) h

-- ---- the same view

pub got_same : (old mid : View) (name : CidParts) (o : Option (List ℕ)) → IsSame old mid → GetsKnown mid name o → GetsKnown old name o
got_same old mid name None same g = (λ l. g.0 (subst (λ (t : Trees). IsListed (t name_tree) (cid_bytes name)) (sym same.trees) l), g.1)
got_same old mid name (Some b) same g = (holds_same old mid name b same g.0, g.1, g.2)

pub known_same : (old mid : View) (name : CidParts) → IsSame old mid → IsKnown mid name → IsKnown old name
known_same old mid name same k = (k.0, got_same old mid name k.0 same k.1)

pub beside_same : (old mid : View) (kept : BTreeSet CidParts) (name : CidParts) → IsSame old mid → IsKnownBeside mid kept name → IsKnownBeside old kept name
beside_same old mid kept name same (inl m) = inl m
beside_same old mid kept name same (inr k) = inr (known_same old mid name same k)

pub fits_same : (old mid : View) (kept : BTreeSet CidParts) (stored : Stored) → IsSame old mid → Fits old kept stored → Fits mid kept stored
fits_same old mid kept stored same fits name o (inl h) = fits name o (inl h)
fits_same old mid kept stored same fits name o (inr h) = fits name o (inr (h.0, got_same old mid name o same h.1))

hides_same : (old mid : View) (n : CidParts) (verdict : Verdict) → IsSame old mid → HidesLinksOf mid n verdict → HidesLinksOf old n verdict
hides_same old mid n verdict same h = subst (λ (t : Trees). HidesLinksOf (record old { trees = t }) n verdict) same.trees h

pub marks_same : (old mid : View) (roots : List CidParts) (kept : BTreeSet CidParts) → mid.trees ≡ old.trees → Marks mid roots kept → Marks old roots kept
marks_same old mid roots kept same h = subst (λ (t : Trees). Marks (record old { trees = t }) roots kept) same h

pub more_same : (old mid : View) (root : CidParts) (kept new : BTreeSet CidParts) → mid.trees ≡ old.trees → MarksMore mid root kept new → MarksMore old root kept new
more_same old mid root kept new same more roots h = marks_same old mid (roots ++ root ∷ []) new same (more roots (marks_same mid old roots kept (sym same) h))

-- ---- what is read, and what is shown

-- what is read if the links under the name are known, and where a walk stops if they are not
pub gets_known : (o : Option (Vec ℕ Global)) (v : View) (name : CidParts) → GetsSome v name (option_map (λ (b : Vec ℕ Global). b.items) o) → IfSome o (λ b. IsNamedBy name b.items) → KnowsLinks (λ q. option_map (λ (b : Vec ℕ Global). b.items) o) name
    → GetsKnown v name (option_map (λ (b : Vec ℕ Global). b.items) o)
gets_known None v name gets named knows = (gets, λ i. knows name.digest (inr (refl, i, refl)))
gets_known (Some b) v name gets named knows = (gets, named, knows b.items (inl refl))

pub hides_got : (o : Option (Vec ℕ Global)) (v : View) (name : CidParts) (verdict : Verdict) → GetsSome v name (option_map (λ (b : Vec ℕ Global). b.items) o) → IfSome o (λ b. IsNamedBy name b.items) → HidesLinksUnder (λ q. option_map (λ (b : Vec ℕ Global). b.items) o) name verdict
    → HidesLinksOf v name verdict
hides_got None v name verdict gets named (b, inl is, h) = absurd (cc is)
hides_got None v name verdict gets named (b, inr (none, i, is), h) = (b, h, inr (gets, i, is))
hides_got (Some c) v name verdict gets named (b, inl is, h) = let same : c.items ≡ b = cc is in (b, h, inl (subst (HoldsOnly v name) same gets, subst (IsNamedBy name) same named))
hides_got (Some c) v name verdict gets named (b, inr (none, i, is), h) = absurd (cc none)

pub not_in : (kept : BTreeSet CidParts) (name : CidParts) → set.contains cid_cmp kept name ≡ false → Among name kept.keys → ⊥
not_in kept name f m = true≢false (sym (among_any name kept.keys m) ∙ f)

pub shown_in : (v : View) (kept : BTreeSet CidParts) (name : CidParts) (b : List ℕ) → b ≡ [] → set.contains cid_cmp kept name ≡ true → IsShownToWalk v kept name (Some b)
shown_in v kept name b none t = inl (any_among name kept.keys t, ap Some none)

pub shown_out : (v : View) (kept : BTreeSet CidParts) (name : CidParts) (o : Option (List ℕ)) → set.contains cid_cmp kept name ≡ false → GetsKnown v name o → IsShownToWalk v kept name o
shown_out v kept name o f g = inr (not_in kept name f, g)

pub shown_else : {E : Type 0} (r : Result (Option (Vec ℕ Global)) E) (C : Type 0) (v : View) (kept : BTreeSet CidParts) (name : CidParts) → set.contains cid_cmp kept name ≡ false → IfOk r (λ o. C → GetsKnown v name (option_map (λ (b : Vec ℕ Global). b.items) o))
    → IfOk r (λ o. C → IsShownToWalk v kept name (option_map (λ (b : Vec ℕ Global). b.items) o))
shown_else (Ok o) C v kept name f h = λ clean. shown_out v kept name _ f (h clean)
shown_else (Err e) C v kept name f h = tt

-- ---- sets

pub all_none : (old : BTreeSet CidParts) → CollectsAll [] old old
all_none old q = (λ m. inl m, λ h. elim h [ inl m ↦ m | inr n ↦ absurd n ])

pub all_next : (names : List CidParts) (i : ℕ) (name : CidParts) (old mid new : BTreeSet CidParts) → i < length names → name ≡ get_or names i name → CollectsAll (take i names) old mid → ((q : CidParts) → Among q new.keys ↔ (Among q mid.keys ⊎ (q ≡ name))) → CollectsAll (take (i + 1) names) old new
all_next names i name old mid new within is h put =
    let longer : take i names ++ name ∷ [] ≡ take (i + 1) names = ap (λ y. take i names ++ y ∷ []) is ∙ sym (take-suc names i name within) ∙ ap (λ n. take n names) (sym (add-one i)) in
    subst (λ ns. CollectsAll ns old new) longer (λ q. (
      λ m. elim ((put q).0 m) [
        | inl n ↦ elim ((h q).0 n) [ inl o ↦ inl o | inr f ↦ inr (push_among q (take i names) name (inl f)) ]
        | inr e ↦ inr (push_among q (take i names) name (inr e))
      ],
      λ m. elim m [
        | inl o ↦ (put q).1 (inl ((h q).1 (inl o)))
        | inr f ↦ elim (among_push q (take i names) name f) [ inl k ↦ (put q).1 (inl ((h q).1 (inr k))) | inr e ↦ (put q).1 (inr e) ]
      ],
    ))

pub all_all : (names : List CidParts) (i : ℕ) (old new : BTreeSet CidParts) → i ≤ length names → length names ≤ i → CollectsAll (take i names) old new → CollectsAll names old new
all_all names i old new below end h =
    let same : i ≡ length names = omega (arith, below, end) in
    subst (λ ns. CollectsAll ns old new) (ap (λ n. take n names) same ∙ take-length names) h

-- ---- places

pub marked_rooted : (v mid : View) (roots done : List CidParts) (root : CidParts) (kept : BTreeSet CidParts) → Among root roots → IsSame v mid → Marks v done kept → (n : CidParts) (A B : Type 0) → (A → B) → AtMarked root kept mid n A → AtRooted roots v n B
marked_rooted v mid roots done root kept among same marks n A B f h = (f h.0, λ stored shows. (root, among, h.1 done (marks_same mid v done kept (sym same.trees) marks) stored (shows_same v mid stored same shows)))

pub met_marked : (root : CidParts) (kept : BTreeSet CidParts) (v : View) (n : CidParts) (A : Type 0) → AtMetBeside root kept v n A → AtMarked root kept v n A
met_marked root kept v n A h = (h.0, λ roots marks stored shows. leads_beside v kept root n stored shows h.1)

-- ---- refusals

module _ {S : Type 0} (g : Ghosts S) where
  pub fails_stops : (At : Place) (old new : S) (told : StoreRefusal) → FailsByStore g ⊥ old new told → StopsAt g At old new told
  fails_stops At old new (refusal.Damaged n) f = absurd (not_damaged g f.error n f.tells)
  fails_stops At old new (refusal.LinksUnread n verdict) f = absurd (not_unread g f.error n verdict f.tells)
  fails_stops At old new told f = f

  -- the store failed after a call that changed nothing
  fails_later : (old mid new : S) (told : StoreRefusal) → Quiet g old mid → (IsClean (g.view mid) → IsSame (g.view old) (g.view mid)) → (IsClean (g.view new) → IsClean (g.view mid)) → FailsByStore g ⊥ mid new told → FailsByStore g ⊥ old new told
  fails_later old mid new told before same was f = fails_after g ⊥ ⊥ old mid new told before was (λ clean. let s = same clean in (s.broken, last_same (g.view old) (g.view mid) s, λ u. u)) f

  -- and so a walk stopped
  pub stops_after : (P Q : Place) (old mid new : S) (told : StoreRefusal) → Quiet g old mid → (IsClean (g.view mid) → IsSame (g.view old) (g.view mid)) → (IsClean (g.view mid) → (n : CidParts) (A B : Type 0) → (A → B) → P (g.view mid) n A → Q (g.view old) n B)
      → (IsClean (g.view new) → IsClean (g.view mid)) → StopsAt g P mid new told → StopsAt g Q old new told
  stops_after P Q old mid new (refusal.Damaged n) before same so was p = λ clean.
      let s = same (was clean) in
      let k = p clean in
      (so (was clean) n (IsDamaged (g.view mid) n) (IsDamaged (g.view old) n) (damaged_same (g.view old) (g.view mid) n s) k.0, same_then (g.view old) (g.view mid) (g.view new) s k.1)
  stops_after P Q old mid new (refusal.LinksUnread n verdict) before same so was p = λ clean.
      let s = same (was clean) in
      let k = p clean in
      (so (was clean) n (HidesLinksOf (g.view mid) n verdict) (HidesLinksOf (g.view old) n verdict) (hides_same (g.view old) (g.view mid) n verdict s) k.0, same_then (g.view old) (g.view mid) (g.view new) s k.1)
  stops_after P Q old mid new told before same so was p = fails_later old mid new told before same was p

  pub stops_where : (P Q : Place) (old new : S) (told : StoreRefusal) → ((v : View) (n : CidParts) (A : Type 0) → P v n A → Q v n A) → StopsAt g P old new told → StopsAt g Q old new told
  stops_where P Q old new (refusal.Damaged n) so p = λ clean. let k = p clean in (so (g.view old) n (IsDamaged (g.view old) n) k.0, k.1)
  stops_where P Q old new (refusal.LinksUnread n verdict) so p = λ clean. let k = p clean in (so (g.view old) n (HidesLinksOf (g.view old) n verdict) k.0, k.1)
  stops_where P Q old new told so p = p

  pub stops_collect : (roots : List CidParts) (old new : S) (told : StoreRefusal) → StopsAt g (AtRooted roots) old new told → CollectRefused g roots old new told
  stops_collect roots old new (refusal.NoBlock n) p = absurd (not_lacking g p.error n p.tells)
  stops_collect roots old new told p = p

  pub lacking_after : (P Q : CidParts → Type 0) (old mid new : S) (told : StoreRefusal) → Quiet g old mid → (IsClean (g.view mid) → IsSame (g.view old) (g.view mid)) → ((n : CidParts) → P n → Q n)
      → (IsClean (g.view new) → IsClean (g.view mid)) → BlocksLacking g P mid new told → BlocksLacking g Q old new told
  lacking_after P Q old mid new (refusal.NoBlock n) before same so was p = λ clean.
      let s = same (was clean) in
      let k = p clean in
      ((so n k.0.0, subst (λ (t : Trees). HasBlockAt (record (g.view old) { trees = t }) n → ⊥) s.trees k.0.1), same_then (g.view old) (g.view mid) (g.view new) s k.1)
  lacking_after P Q old mid new told before same so was p = fails_later old mid new told before same was p

  pub collect_after : (roots : List CidParts) (old mid new : S) (told : StoreRefusal) → Quiet g old mid → (IsClean (g.view mid) → IsSame (g.view old) (g.view mid)) → (IsClean (g.view new) → IsClean (g.view mid)) → CollectRefused g roots mid new told → CollectRefused g roots old new told
  collect_after roots old mid new (refusal.NoBlock n) before same was p = lacking_after (λ q. Among q roots) (λ q. Among q roots) old mid new (refusal.NoBlock n) before same (λ q m. m) was p
  collect_after roots old mid new told before same was p =
      stops_after (AtRooted roots) (AtRooted roots) old mid new told before same (λ clean n A B f h. (f h.0, λ stored shows. h.1 stored (shows_same (g.view old) (g.view mid) stored (same clean) shows))) was p

pub have_same : (old mid : View) (name : CidParts) → IsSame old mid → HasBlockAt mid name → HasBlockAt old name
have_same old mid name same h = subst (λ (t : Trees). HasBlockAt (record old { trees = t }) name) same.trees h

pub have_next : (v : View) (roots : List CidParts) (i : ℕ) (root : CidParts) → i < length roots → root ≡ get_or roots i root → HaveBlocks v (take i roots) → HasBlockAt v root → HaveBlocks v (take (i + 1) roots)
have_next v roots i root within is h has =
    let longer : take i roots ++ root ∷ [] ≡ take (i + 1) roots = ap (λ y. take i roots ++ y ∷ []) is ∙ sym (take-suc roots i root within) ∙ ap (λ n. take n roots) (sym (add-one i)) in
    subst (HaveBlocks v) longer (λ q m. elim (among_push q (take i roots) root m) [ inl o ↦ h q o | inr e ↦ subst (HasBlockAt v) (sym e) has ])

pub have_all : (v : View) (roots : List CidParts) (i : ℕ) → i ≤ length roots → length roots ≤ i → HaveBlocks v (take i roots) → HaveBlocks v roots
have_all v roots i below end h =
    let same : i ≡ length roots = omega (arith, below, end) in
    subst (HaveBlocks v) (ap (λ n. take n roots) same ∙ take-length roots) h

pub fits_none : (v : View) (kept : BTreeSet CidParts) (stored : Stored) → kept.keys ≡ [] → ShowsStored v stored → Fits v kept stored
fits_none v kept stored none shows name o (inl h) = absurd (subst (Among name) none h.0)
fits_none v kept stored none shows name o (inr h) = got_known v stored name o shows h.1

-- with an empty set, a walk comes to what links lead to
pub reaches_all : (v : View) (root : CidParts) (kept : BTreeSet CidParts) (r : Reached) → kept.keys ≡ [] → ReachesBeside v kept root r → Reaches v root r
reaches_all v root kept r none reaches stored shows =
    let w = reaches stored (fits_none v kept stored none shows) in
    (w.0, w.1, λ q far. elim (w.2 q far) [ inl m ↦ absurd (subst (Among q) none m) | inr k ↦ k ])

pub reached_all : {E : Type 0} (C : Type 0) (v : View) (root : CidParts) (kept : BTreeSet CidParts) (r : Result Reached E) → kept.keys ≡ [] → IfOk r (λ x. C → ReachesBeside v kept root x) → IfOk r (λ x. C → Reaches v root x)
reached_all C v root kept (Ok x) none h = λ clean. reaches_all v root kept x none (h clean)
reached_all C v root kept (Err e) none h = tt

pub met_reached : {S : Type 0} (g : Ghosts S) (root : CidParts) (kept : BTreeSet CidParts) (old new : S) (r : Result Reached StoreRefusal) → kept.keys ≡ [] → IfErr r (StopsAt g (AtMetBeside root kept) old new) → IfErr r (ReachRefused g root old new)
met_reached g root kept old new (Ok x) none h = tt
met_reached g root kept old new (Err e) none h = stops_where g (AtMetBeside root kept) (λ v n IsSo. OfStored v (λ stored. IsSo × LeadsFar stored root n)) old new e (λ v n A k stored shows. (k.0, k.1 stored (fits_none v kept stored none shows))) h

pub have_none : (v : View) → HaveBlocks v []
have_none v name m = absurd m

pub named_root : (roots : List CidParts) (root : CidParts) → Among root roots → (n : CidParts) → n ≡ root → Among n roots
named_root roots root m n e = subst (λ q. Among q roots) (sym e) m

pub roots_marked : {E : Type 0} (r : Result (BTreeSet CidParts) E) (old mid : View) (roots : List CidParts) (C : Type 0) → (C → HaveBlocks old roots × IsSame old mid) → IfOk r (λ kept. C → Marks mid roots kept) → IfOk r (λ kept. C → MarksRoots old roots kept)
roots_marked (Ok kept) old mid roots C was h = λ clean. let k = was clean in (k.0, marks_same old mid roots kept k.1.trees (h clean))
roots_marked (Err e) old mid roots C was h = tt

pub marks_refused : {S : Type 0} (g : Ghosts S) (r : Result (BTreeSet CidParts) StoreRefusal) (roots : List CidParts) (old mid new : S) → Quiet g old mid → (IsClean (g.view mid) → IsSame (g.view old) (g.view mid)) → (IsClean (g.view new) → IsClean (g.view mid)) → IfErr r (StopsAt g (AtRooted roots) mid new) → IfErr r (CollectRefused g roots old new)
marks_refused g (Ok kept) roots old mid new before same was h = tt
marks_refused g (Err e) roots old mid new before same was h = collect_after g roots old mid new e before same was (stops_collect g roots mid new e h)

pub listed_same : (old mid : View) (name : CidParts) → IsSame old mid → ListsName mid name → ListsName old name
listed_same old mid name same h = subst (λ (t : Trees). IsListed (t name_tree) (cid_bytes name)) same.trees h
