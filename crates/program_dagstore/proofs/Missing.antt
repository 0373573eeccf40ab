-- Links in a store that lead to no block.
use Rattle.std.proofs.Common.{◌≡◌, ◌⊎◌, inl, inr, ℕ, List, [], ◌∷◌, ◌++◌, Bool, true, false, refl, sym, subst, ◌↔◌, Option, None, Some, BTreeSet, Vec, Global, Result, Ok, Err, IfOk, OnOk, arith}
use Rattle.std.specs.List.Sorted.{IsStrictlySortedBy}
use Rattle.sqlite_trees.specs.Tree.{Trees}
use Rattle.sqlite_trees.specs.View.{View, IsClean}
use Rattle.dagcbor_core.specs.declared.error.DecodeError.{DecodeError}
use Rattle.std.specs.declared.convert.Infallible.{Infallible}
use Rattle.ipld_tree.specs.Cid.{CidParts, AreCidParts, cid_bytes, cid_cmp}
use Rattle.ipld_tree.proofs.Cids.{cid_unique}
use Rattle.ipld_tree.specs.Tree.{links_of}
use Rattle.dagcbor_items.specs.Walks.{forms}
use Rattle.ipld_links.specs.Sets.{Among}
use Rattle.dag_pb.specs.Node.{node_links}
use Rattle.ipld_links.specs.Blocks.{IsBlockOf}
use Rattle.ipld_links.proofs.Linking.{linked_read, item_of, node_of}
use Rattle.ipld_links.specs.Verdicts.{IsVerdictOn}
use Rattle.ipld_links.specs.declared.verdict.Verdict.{Verdict}
use Rattle.ipld_links.specs.declared.verdict.Verdict.TheVariants as verdicts
use Rattle.ipld_links.specs.Within.{IsReached}
use Rattle.dagcbor_decode.specs.Verdicts.{IsRefusedFor}
use Rattle.dagcbor_decode.proofs.Laws.{refused_no_block}
use Rattle.ipld_links.proofs.Within.{reached_cid, not_inline}
use Rattle.ipld_links.proofs.Members.{among_push, push_among, among_map, map_among}
use Rattle.store_on_disk.specs.Rows.{name_tree, IsListed, IsStored}
use Rattle.store_on_disk.specs.Stored.{IsNamedBy, IsAfter, IsNext, IsSame, HoldsOnly, ListsName}
use Rattle.store_on_disk.specs.Lost.{NamesNoneListed, AddsLost, IsReachedIn}
use Rattle.store_on_disk.proofs.Walking.{holds_same, damaged_same}
use Rattle.program_dagstore.specs.Names.{AreAll}
use Rattle.program_dagstore.specs.Checks.{is_linked, IsCheckedLine, IsSoundlyLinked, ListsSoundlyMissing, LinksTo, AddsUnlistedLinks, IsMissing}
use Rattle.program_dagstore.proofs.Telling.{StaysSaid}

-- ---- one name

pub checked_stays : StaysSaid IsCheckedLine
checked_stays old mid now new later same c well t (inl h) = inl (h.0, h.1, h.2, h.3, (λ clean. holds_same old mid c h.0 (same clean) (h.4 (later clean))), h.5, h.6)
checked_stays old mid now new later same c well t (inr h) = inr ((λ clean. damaged_same old mid c (same clean) (h.0 (later clean))), h.1, h.2)

pub adds_block : (v : View) (c : CidParts) (b : List ℕ) (old new : BTreeSet CidParts) → HoldsOnly v c b → IsNamedBy c b → AddsLost v c.codec b old new → AddsUnlistedLinks v c old new
adds_block v c b old new only named a q = (
  λ m. elim ((a q).0 m) [ inl o ↦ inl o | inr u ↦ inr ((b, only.0, named, u.0), u.1) ],
  λ k. elim k [ inl o ↦ (a q).1 (inl o) | inr u ↦ (a q).1 (inr (subst (λ d. IsReachedIn c.codec d q) (only.1 u.0.0 u.0.1) u.0.3, u.1)) ],
)

adds_none : (v : View) (c : CidParts) (s : BTreeSet CidParts) → ((q : CidParts) → LinksTo v c q → ⊥) → AddsUnlistedLinks v c s s
adds_none v c s none q = (λ m. inl m, λ k. elim k [ inl o ↦ o | inr u ↦ absurd (none q u.0) ])

pub adds_refused : (v : View) (c : CidParts) (b : List ℕ) (s : BTreeSet CidParts) → HoldsOnly v c b → (IsBlockOf c.codec b → ⊥) → AddsUnlistedLinks v c s s
adds_refused v c b s only not = adds_none v c s (λ q l. let k = subst (λ d. IsReachedIn c.codec d q) (only.1 l.0 l.1) l.3 in not (k.0, k.1))

pub adds_same : (old mid : View) (c : CidParts) (s t : BTreeSet CidParts) → IsSame old mid → AddsUnlistedLinks mid c s t → AddsUnlistedLinks old c s t
adds_same old mid c s t same h = subst (λ (u : Trees). (q : CidParts) → Among q t.keys
    ↔ (Among q s.keys ⊎ (((b : List ℕ) × IsStored u (cid_bytes c) b × IsNamedBy c b × IsReachedIn c.codec b q) × (IsListed (u name_tree) (cid_bytes q) → ⊥)))) same.trees h

-- ---- the line of one name

lists_there : (old mid : View) (c : CidParts) → IsSame old mid → ListsName old c → ListsName mid c
lists_there old mid c same h = subst (λ (t : Trees). IsListed (t name_tree) (cid_bytes c)) (sym same.trees) h

holds_there : (old mid : View) (c : CidParts) (b : List ℕ) → IsSame old mid → HoldsOnly old c b → HoldsOnly mid c b
holds_there old mid c b same h = subst (λ (t : Trees). IsStored t (cid_bytes c) b × ((d : List ℕ) → IsStored t (cid_bytes c) d → d ≡ b)) (sym same.trees) h

no_item_of : (codec : ℕ) (b : List ℕ) (e : DecodeError Infallible) → codec ≡ 0x71 → IsRefusedFor b e → IsBlockOf codec b → ⊥
no_item_of codec b e is refused h = let k = item_of codec b h is in refused_no_block b e k.0 refused k.1

no_raw : (codec : ℕ) (b : List ℕ) → codec ≡ 0x55 → IsBlockOf codec b → ⊥
no_raw codec b is (links, inl h) = absurd (omega (arith, is, h.0))
no_raw codec b is (links, inr h) = absurd (omega (arith, is, h.0))

pub linked_by : (codec : ℕ) (b : List ℕ) (v : Verdict) → IsVerdictOn codec b v → is_linked v ≡ true → IsBlockOf codec b
linked_by codec b (verdicts.Block kind) h t = (links_of h.1.0, inl (h.0, (h.1.0, h.1.1, refl)))
linked_by codec b verdicts.Node h t = (node_links h.1.0, inr (h.0, (h.1.0, h.1.1, refl)))
linked_by codec b (verdicts.Refused e) h t = absurd (cc t)
linked_by codec b (verdicts.NoNode e) h t = absurd (cc t)
linked_by codec b verdicts.NotRead h t = absurd (cc t)
linked_by codec b verdicts.LinksNotRead h t = absurd (cc t)
linked_by codec b verdicts.OtherBytes h t = absurd h
linked_by codec b verdicts.Unverified h t = absurd h

pub unlinked_by : (codec : ℕ) (b : List ℕ) (v : Verdict) → IsVerdictOn codec b v → is_linked v ≡ false → IsBlockOf codec b → ⊥
unlinked_by codec b (verdicts.Block kind) h f k = absurd (cc f)
unlinked_by codec b verdicts.Node h f k = absurd (cc f)
unlinked_by codec b (verdicts.Refused e) h f k = no_item_of codec b e h.0 h.1 k
unlinked_by codec b (verdicts.NoNode e) h f k = h.1.0 (node_of codec b k h.0)
unlinked_by codec b verdicts.NotRead h f k = no_raw codec b h k
unlinked_by codec b verdicts.LinksNotRead h f k = h.1 (linked_read codec b k.0 k.1)
unlinked_by codec b verdicts.OtherBytes h f k = absurd h
unlinked_by codec b verdicts.Unverified h f k = absurd h

pub judged_checked : {E : Type 0} (old mid new : View) (c : CidParts) (b d : List ℕ) (r : Result (Vec ℕ Global × Bool) E) → d ≡ b → IsNamedBy c b → (IsClean new → IsClean mid) → (IsClean mid → IsSame old mid) → (IsClean mid → HoldsOnly old c b)
    → IfOk r (λ p. IsNamedBy c d → (IsClean new → HoldsOnly mid c d) → IsCheckedLine mid new c p.1 p.0.items) → IfOk r (λ p. (IsClean new → ListsName old c) → IsCheckedLine old new c p.1 p.0.items)
judged_checked old mid new c b d (Err e) is named was same holds h = tt
judged_checked old mid new c b d (Ok p) is named was same holds h = λ listed.
    checked_stays old mid new new (λ clean. clean) (λ clean. same (was clean)) c p.1 p.0.items (h (subst (IsNamedBy c) (sym is) named) (λ clean. subst (HoldsOnly mid c) (sym is) (holds_there old mid c b (same (was clean)) (holds (was clean)))))

pub judged_missing : {X E : Type 0} (old mid new : View) (c : CidParts) (b d : List ℕ) (s t : BTreeSet CidParts) (r : Result X E) → d ≡ b → IsNamedBy c b → (IsClean new → IsClean mid) → (IsClean mid → IsSame old mid) → (IsClean mid → HoldsOnly old c b)
    → OnOk r (IsNamedBy c d → IsClean new → HoldsOnly mid c d → AddsUnlistedLinks mid c s t) → OnOk r (IsClean new → ListsName old c → AddsUnlistedLinks old c s t)
judged_missing old mid new c b d s t (Err e) is named was same holds h = tt
judged_missing old mid new c b d s t (Ok x) is named was same holds h = λ clean listed.
    adds_same old mid c s t (same (was clean)) (h (subst (IsNamedBy c) (sym is) named) clean (subst (HoldsOnly mid c) (sym is) (holds_there old mid c b (same (was clean)) (holds (was clean)))))

pub next_missing : (old mid new : View) (last : Option CidParts) (c : CidParts) (s t : BTreeSet CidParts) → (IsClean new → IsClean mid) → (IsClean mid → IsSame old mid) → (IsClean mid → IsNext (old.trees name_tree) last c)
    → (IsClean new → ListsName mid c → AddsUnlistedLinks mid c s t) → IsClean new → AddsUnlistedLinks old c s t
next_missing old mid new last c s t was same next h clean = adds_same old mid c s t (same (was clean)) (h clean (lists_there old mid c (same (was clean)) (next (was clean)).listed))

-- ---- the walk

-- the set has the names that links in the blocks under these lead to which are not listed
abbrev pub MissingOf : View → List CidParts → BTreeSet CidParts → Type 0
MissingOf v names s = (q : CidParts) → Among q s.keys ↔ (((c : CidParts) × Among c names × LinksTo v c q) × (ListsName v q → ⊥))

pub missing_none : (v : View) (s : BTreeSet CidParts) → s.keys ≡ [] → MissingOf v [] s
missing_none v s none q = (λ m. absurd (subst (Among q) none m), λ h. absurd h.0.1)

pub missing_more : (v : View) (names : List CidParts) (c : CidParts) (old new : BTreeSet CidParts) → MissingOf v names old → AddsUnlistedLinks v c old new → MissingOf v (names ++ c ∷ []) new
missing_more v names c old new h a q = (
  λ m. elim ((a q).0 m) [
    | inl o ↦ let k = (h q).0 o in ((k.0.0, push_among k.0.0 names c (inl k.0.1), k.0.2), k.1)
    | inr u ↦ ((c, push_among c names c (inr refl), u.0), u.1)
  ],
  λ k. elim (among_push k.0.0 names c k.0.1) [
    | inl m ↦ (a q).1 (inl ((h q).1 ((k.0.0, m, k.0.2), k.1)))
    | inr e ↦ (a q).1 (inr (subst (λ x. LinksTo v x q) e k.0.2, k.1))
  ],
)

all_valid : (v : View) (last : Option CidParts) (names : List CidParts) (c : CidParts) → AreAll v last names → Among c names → AreCidParts c
all_valid v last [] c h m = absurd m
all_valid v last (x ∷ xs) c h (inl e) = subst AreCidParts (sym e) h.0.valid
all_valid v last (x ∷ xs) c h (inr m) = all_valid v (Some x) xs c h.1 m

-- each name that is listed after the last one is among them
all_listed : (v : View) (last : Option CidParts) (names : List CidParts) (q : List ℕ) → AreAll v last names → IsListed (v.trees name_tree) q → IsAfter last q → (c : CidParts) × Among c names × (cid_bytes c ≡ q)
all_listed v last [] q h l b = absurd (h q l b)
all_listed v last (x ∷ xs) q h l b = elim (h.0.first q l b) [
  | inl e ↦ (x, inl refl, sym e)
  | inr less ↦ let k = all_listed v (Some x) xs q h.1 l less in (k.0, inr k.1, k.2)
]

pub missing_all : (v : View) (names : List CidParts) (s : BTreeSet CidParts) → AreAll v None names → MissingOf v names s → IsMissing v s
missing_all v names s all h q = (
  λ m. let k = (h q).0 m in ((k.0.0, all_valid v None names k.0.0 all k.0.1, k.0.2), k.1),
  λ k.
      let stored = k.0.2.1 in
      let at = all_listed v None names (cid_bytes k.0.0) all (stored.id, stored.listed) tt in
      let is = cid_unique at.0 k.0.0 (all_valid v None names at.0 all at.1) k.0.1 at.2 in
      (h q).1 ((k.0.0, subst (λ x. Among x names) is at.1, k.0.2), k.1),
)

pub lists_missing : (v : View) (s : BTreeSet CidParts) → IsStrictlySortedBy cid_cmp s.keys → IsMissing v s → ListsSoundlyMissing v s.keys
lists_missing v s sorted h = (sorted, λ form. (there form, back form))
  where
    there : (form : List ℕ) → Among form (forms s.keys) → IsSoundlyLinked form v × NamesNoneListed form v
    there form m =
        let k = map_among cid_bytes form s.keys m in
        let w = (h k.0).0 k.1 in
        let l = w.0.2 in
        let t = l.3 in
        subst (λ f. IsSoundlyLinked f v × NamesNoneListed f v) (sym k.2)
        ((w.0.0, l.0, t.0, w.0.1, l.1, l.2, t.1, t.2.2), (not_inline (cid_bytes k.0) k.0 t.2.0 t.2.1 refl, w.1))

    back : (form : List ℕ) → IsSoundlyLinked form v × NamesNoneListed form v → Among form (forms s.keys)
    back form m =
        let l = m.0 in
        let c = reached_cid l.0.codec l.1 l.2 form l.6 l.7 in
        let is = subst (λ f. NamesNoneListed f v) c.2 m.1 in
        let found = (h c.0).1 ((l.0, l.3, (l.1, l.4, l.5, (l.2, l.6, (c.1, λ i. is.0 (c.0, c.1, refl, i), subst (λ f. IsReached f l.2) c.2 l.7)))), is.1) in
        subst (λ f. Among f (forms s.keys)) (sym c.2) (among_map cid_bytes c.0 s.keys found)
