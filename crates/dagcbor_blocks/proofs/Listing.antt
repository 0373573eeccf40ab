-- The links in held blocks that name no held block.
use Rattle.std.proofs.Common.{◌≡◌, inl, inr, ℕ, List, [], ◌∷◌, ◌++◌, Bool, true, false, cond, refl, sym, ap, ◌∙◌, subst, append_assoc, append-nil, ◌↔◌, Option, None, Some, Vec, Global, BTreeMap}
use Rattle.std.specs.List.{AllByRecursion}
use Rattle.std.specs.Map.{lookup}
use Rattle.std.specs.BTreeMap.{is_at, get}
use Rattle.std.proofs.lemmas.Grind.{not_there}
use Rattle.serde_ipld_dagcbor.specs.Cid.{CidParts, AreCidParts, cid_bytes, cid_cmp}
use Rattle.serde_ipld_dagcbor.specs.Walks.{forms}
use Rattle.serde_ipld_dagcbor.specs.GrammarLaws.{CidEqualityIsOfBytes}
use Rattle.ipld_links.specs.Blocks.{HasLinks, IsBlockOf}
use Rattle.ipld_links.proofs.Rows.{one_links}
use Rattle.dagcbor_blocks.specs.Sound.{IsSoundEntry}
use Rattle.ipld_links.specs.Sets.{Among, members}
use Rattle.ipld_links.specs.declared.cid_set.CidSet.{CidSet}
use Rattle.dagcbor_blocks.specs.Blocks.{IsHeldLink, NamesNoneHeld}
use Rattle.dagcbor_blocks.specs.Steps.{IsUnheld}
use Rattle.dagcbor_blocks.proofs.Unique.{cid_unique}
use Rattle.dagcbor_blocks.proofs.Keeping.{BlockEntry, shown}
use Rattle.dagcbor_blocks.proofs.Members.{all_among, found_among}
use Rattle.ipld_links.proofs.Within.{block_links_are_cids}
use Rattle.ipld_links.proofs.Members.{among_map, map_among, among_push, push_among, same_at}
use Rattle.dagcbor_blocks.proofs.Missing.{AddedSoFar}

-- ---- a block and its links

-- the binary form is that of a link in one of these blocks
abbrev pub Linked : List BlockEntry → List ℕ → Type 0
Linked es form = (e : BlockEntry) × (links : List (List ℕ)) × Among e es × HasLinks e.0.codec e.1.items links × Among form links

-- ---- the loop over blocks

-- the set has the links of these blocks that are to be listed
abbrev pub MissingOf : {X : Type 0} → BTreeMap CidParts X → List BlockEntry → CidSet → Type 0
MissingOf blocks vs s = (q : CidParts) → (Among q (members s) → AreCidParts q × Linked vs (cid_bytes q) × IsUnheld blocks q) × (AreCidParts q → Linked vs (cid_bytes q) → IsUnheld blocks q → Among q (members s))

linked_since : (vs : List BlockEntry) (v : BlockEntry) (form : List ℕ) → Linked vs form → Linked (vs ++ v ∷ []) form
linked_since vs v form l = (l.0, l.1, push_among l.0 vs v (inl l.2), l.3, l.4)

missing_push : {X : Type 0} → CidEqualityIsOfBytes → (blocks : BTreeMap CidParts X) (vs : List BlockEntry) (v : BlockEntry) (links : List CidParts) (old new : CidSet)
    → HasLinks v.0.codec v.1.items (forms links) → MissingOf blocks vs old → AddedSoFar blocks links old new → MissingOf blocks (vs ++ v ∷ []) new
missing_push cids blocks vs v links old new has h added q = (there, back)
  where
    there : Among q (members new) → AreCidParts q × Linked (vs ++ v ∷ []) (cid_bytes q) × IsUnheld blocks q
    there m = elim ((added.1 q).0 m) [
      | inl o ↦ let k = (h q).0 o in (k.0, linked_since vs v (cid_bytes q) k.1, k.2)
      | inr u ↦ (
        all_among AreCidParts links q added.0 u.0,
        (v, forms links, push_among v vs v (inr refl), has, among_map cid_bytes q links u.0),
        u.1,
      )
    ]

    in_links : AreCidParts q → (ls : List (List ℕ)) → HasLinks v.0.codec v.1.items ls → Among (cid_bytes q) ls → Among q links
    in_links p u s m =
        let same = one_links v.0.codec v.1.items u (forms links) s has in
        let k = map_among cid_bytes (cid_bytes q) links (subst (Among (cid_bytes q)) same m) in
        let eq = cid_unique cids q k.0 p (all_among AreCidParts links k.0 added.0 k.1) k.2 in
        subst (λ x. Among x links) (sym eq) k.1

    back : AreCidParts q → Linked (vs ++ v ∷ []) (cid_bytes q) → IsUnheld blocks q → Among q (members new)
    back p l free = elim (among_push l.0 vs v l.2) [
      | inl m ↦ (added.1 q).1 (inl ((h q).1 p (l.0, l.1, m, l.3, l.4) free))
      | inr e ↦ (added.1 q).1 (inr (in_links p l.1 (subst (λ (w : BlockEntry). HasLinks w.0.codec w.1.items l.1) e l.3) l.4, free))
    ]

-- links are read in such blocks alone
missing_skip : {X : Type 0} (blocks : BTreeMap CidParts X) (vs : List BlockEntry) (v : BlockEntry) (s : CidSet) → (IsBlockOf v.0.codec v.1.items → ⊥) → MissingOf blocks vs s → MissingOf blocks (vs ++ v ∷ []) s
missing_skip blocks vs v s other h q = (
  λ m. let k = (h q).0 m in (k.0, linked_since vs v (cid_bytes q) k.1, k.2),
  λ p l free. elim (among_push l.0 vs v l.2) [
    | inl m ↦ (h q).1 p (l.0, l.1, m, l.3, l.4) free
    | inr e ↦ absurd (other (l.1, subst (λ (w : BlockEntry). HasLinks w.0.codec w.1.items l.1) e l.3))
  ],
)

-- the blocks so far, and those to come
pub record SoFar (blocks : BTreeMap CidParts (Vec ℕ Global)) (rest : List BlockEntry) (s : CidSet) : Type 0 where
  pub seen : List BlockEntry
  pub all : blocks.entries ≡ seen ++ rest
  pub listed : MissingOf blocks seen s

pub so_far_next : CidEqualityIsOfBytes → (blocks : BTreeMap CidParts (Vec ℕ Global)) (before rest : List BlockEntry) (v : BlockEntry) (links : List CidParts) (old new : CidSet)
    → before ≡ v ∷ rest → SoFar blocks before old → HasLinks v.0.codec v.1.items (forms links) → AddedSoFar blocks links old new → SoFar blocks rest new
so_far_next cids blocks before rest v links old new is h has added =
    let all : blocks.entries ≡ h.seen ++ v ∷ rest = h.all ∙ ap (λ l. h.seen ++ l) is in
    record { seen = h.seen ++ v ∷ []; all = all ∙ sym (append_assoc h.seen (v ∷ []) rest); listed = missing_push cids blocks h.seen v links old new has h.listed added }

pub so_far_skip : (blocks : BTreeMap CidParts (Vec ℕ Global)) (before rest : List BlockEntry) (v : BlockEntry) (s : CidSet) → before ≡ v ∷ rest → SoFar blocks before s → (IsBlockOf v.0.codec v.1.items → ⊥) → SoFar blocks rest s
so_far_skip blocks before rest v s is h other =
    let all : blocks.entries ≡ h.seen ++ v ∷ rest = h.all ∙ ap (λ l. h.seen ++ l) is in
    record { seen = h.seen ++ v ∷ []; all = all ∙ sym (append_assoc h.seen (v ∷ []) rest); listed = missing_skip blocks h.seen v s other h.listed }

-- ---- the whole

-- a look-up in the entries
not_unheld : (q : CidParts) (v : Vec ℕ Global) (es : List BlockEntry) → Among (q, v) es → lookup (is_at (cid_cmp q)) es ≡ None → ⊥
not_unheld q v [] m e = m
not_unheld q v (x ∷ es) (inl same) e =
    let hit = same_at q x.0 (ap (λ (p : BlockEntry). p.0) same) in
    let f : Some x.1 ≡ None = sym (ap (λ b. cond b (Some x.1) (lookup (is_at (cid_cmp q)) es)) hit) ∙ e in
    absurd (cc f)
not_unheld q v (x ∷ es) (inr m) e = by (is_at (cid_cmp q) x.0) e (λ l. not_unheld q v es m l)
  where
    by : (b : Bool) → cond b (Some x.1) (lookup (is_at (cid_cmp q)) es) ≡ None → (lookup (is_at (cid_cmp q)) es ≡ None → ⊥) → ⊥
    by true l f = absurd (cc l)
    by false l f = f l

module _ (cids : CidEqualityIsOfBytes) (blocks : BTreeMap CidParts (Vec ℕ Global)) (sound : ∥ AllByRecursion IsSoundEntry blocks.entries ∥₁) where
  linked_in : (form : List ℕ) → Linked blocks.entries form → IsHeldLink form (shown blocks.entries)
  linked_in form l = ((l.0.0, l.0.1.items), l.1, among_map (λ (e : BlockEntry). (e.0, e.1.items)) l.0 blocks.entries l.2, l.3, l.4)

  in_linked : (form : List ℕ) → IsHeldLink form (shown blocks.entries) → Linked blocks.entries form
  in_linked form l =
      let e = map_among (λ (e : BlockEntry). (e.0, e.1.items)) l.0 blocks.entries l.2 in
      (e.0, l.1, e.1, subst (λ (p : CidParts × List ℕ). HasLinks p.0.codec p.1 l.1) e.2 l.3, l.4)

  unnamed : (q : CidParts) → AreCidParts q → IsUnheld blocks q → (e : CidParts × List ℕ) → Among e (shown blocks.entries) → cid_bytes e.0 ≡ cid_bytes q → ⊥
  unnamed q p free e m same =
      let k = map_among (λ (e : BlockEntry). (e.0, e.1.items)) e blocks.entries m in
      not_there sound (λ s.
      let b = all_among IsSoundEntry blocks.entries k.0 s k.1 in
      let key : cid_bytes k.0.0 ≡ cid_bytes q = sym (ap (λ (p : CidParts × List ℕ). cid_bytes p.0) k.2) ∙ same in
      let is = cid_unique cids k.0.0 q b.valid p key in
      not_unheld q k.0.1 blocks.entries (subst (λ (n : CidParts). Among (n, k.0.1) blocks.entries) is k.1) free)

  names_unheld : (q : CidParts) → NamesNoneHeld (cid_bytes q) (shown blocks.entries) → IsUnheld blocks q
  names_unheld q n = by (get cid_cmp blocks q) refl
    where
      by : (o : Option (Vec ℕ Global)) → get cid_cmp blocks q ≡ o → get cid_cmp blocks q ≡ None
      by None e = e
      by (Some v) e = absurd (n (q, v.items) (among_map (λ (e : BlockEntry). (e.0, e.1.items)) (q, v) blocks.entries (found_among q blocks.entries v e)) refl)

  pub all_listed : (s : CidSet) (rest : List BlockEntry) (items : List CidParts) → rest ≡ [] → SoFar blocks rest s → items ≡ (members s)
      → (form : List ℕ) → Among form (forms items) ↔ (IsHeldLink form (shown blocks.entries) × NamesNoneHeld form (shown blocks.entries))
  all_listed s rest items end h is form = (
    λ m.
        let k = map_among cid_bytes form items m in
        let w = (h.listed k.0).0 (subst (Among k.0) is k.1) in
        subst (λ f. IsHeldLink f (shown blocks.entries) × NamesNoneHeld f (shown blocks.entries)) (sym k.2)
        (linked_in (cid_bytes k.0) (subst (λ vs. Linked vs (cid_bytes k.0)) seen w.1), unnamed k.0 w.0 w.2),
    λ m.
        let c = block_links_are_cids m.0.0.0.codec m.0.0.1 m.0.1 form m.0.3 m.0.4 in
        let l = subst (λ f. Linked h.seen f) c.2 (subst (λ vs. Linked vs form) (sym seen) (in_linked form m.0)) in
        let n = subst (λ f. NamesNoneHeld f (shown blocks.entries)) c.2 m.1 in
        let found = (h.listed c.0).1 c.1 l (names_unheld c.0 n) in
        subst (λ f. Among f (forms items)) (sym c.2) (among_map cid_bytes c.0 items (subst (Among c.0) (sym is) found)),
  )
    where
      seen : h.seen ≡ blocks.entries
      seen = sym (h.all ∙ ap (λ l. h.seen ++ l) end ∙ append-nil h.seen)
