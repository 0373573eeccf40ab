-- Links within links.
use Rattle.std.proofs.Common.{◌≡◌, ◌⊎◌, inl, inr, map, IsTrue, ℕ, ◌+◌, ◌<◌, ◌≤◌, zero, suc, Bool, true, false, List, [], ◌∷◌, ◌++◌, length, length-append, get_or, take, refl, sym, ap, ◌∙◌, subst, arith, add-one, ◌↔◌, Result, Ok, Err, is_err, OnOk, if◌then◌else◌, ◌==◌, take-suc}
use Rattle.std.specs.List.{AllByRecursion}
use Rattle.std.proofs.Math.Seq.{take-length}
use Rattle.ipld_tree.specs.Cid.{varint, CidParts, AreCidParts, IsCid, cid_bytes}
use Rattle.ipld_tree.specs.Tree.{Tree, null, boolean, integer, text, bytes, list, mapping, link, Items, no_items, item, Entries, no_entries, entry, IsTree, AreItems, AreEntries, links_of, items_links, entries_links}
use Rattle.ipld_tree.proofs.Cids.{cid_unique}
use Rattle.dagcbor_items.specs.Walks.{forms}
use Rattle.dagcbor_decode.specs.Blocks.{AreFirstLinks}
use Rattle.ipld_links.specs.Names.{IsInline}
use Rattle.dag_pb.specs.Node.{LinkParts}
use Rattle.dag_pb.specs.Reads.{links_in}
use Rattle.dag_pb.proofs.Rows.{row_links}
use Rattle.dag_pb.proofs.Reading.{row_of_node}
use Rattle.ipld_links.specs.Blocks.{HasLinks, IsBlockOf}
use Rattle.ipld_links.specs.Sets.{Among, members}
use Rattle.ipld_links.specs.Held.{IsHeldName, HoldsNone}
use Rattle.ipld_links.specs.Within.{IsInlineForm, IsLinkWithin, IsReached, IsReachedName, AddsUnheld, AddsReached, AddsAll, AreFirstNames, AddsLinks, AreNamesOf}
use Rattle.ipld_links.specs.declared.cid_set.CidSet.{CidSet}
use Rattle.ipld_links.specs.declared.held.HeldNames.{HeldNames}
use Rattle.ipld_links.specs.Rows.{HoldsLinksAs}
use Rattle.ipld_links.proofs.Rows.{one_links, forms_push, LinksSoFar, none_so_far, one_so_far, all_so_far}
use Rattle.ipld_links.proofs.Members.{among_append, append_among}

-- ---- links are CIDs

mutual
  pub links_are_cids : (t : Tree) (form : List ℕ) → IsTree t → Among form (links_of t) → IsCid form
  links_are_cids null form p h = absurd h
  links_are_cids (boolean b) form p h = absurd h
  links_are_cids (integer n) form p h = absurd h
  links_are_cids (text s) form p h = absurd h
  links_are_cids (bytes s) form p h = absurd h
  links_are_cids (list ts) form p h = items_are_cids ts form p h
  links_are_cids (mapping es) form p h = entries_are_cids es form p h
  links_are_cids (link cid) form p (inl e) = subst IsCid (sym e) p
  links_are_cids (link cid) form p (inr h) = absurd h

  items_are_cids : (ts : Items) (form : List ℕ) → AreItems ts → Among form (items_links ts) → IsCid form
  items_are_cids no_items form p h = absurd h
  items_are_cids (item t ts) form p h = elim (among_append form (links_of t) (items_links ts) h) [ inl m ↦ links_are_cids t form p.0 m | inr m ↦ items_are_cids ts form p.1 m ]

  entries_are_cids : (es : Entries) (form : List ℕ) → AreEntries es → Among form (entries_links es) → IsCid form
  entries_are_cids no_entries form p h = absurd h
  entries_are_cids (entry k t es) form p h = elim (among_append form (links_of t) (entries_links es) h) [ inl m ↦ links_are_cids t form p.1 m | inr m ↦ entries_are_cids es form p.3 m ]

all_map : {X : Type 0} (P : List ℕ → Type 0) (f : X → List ℕ) (xs : List X) (form : List ℕ) → AllByRecursion (λ x. P (f x)) xs → Among form (map f xs) → P form
all_map P f [] form h m = absurd m
all_map P f (x ∷ xs) form h (inl e) = subst P (sym e) h.0
all_map P f (x ∷ xs) form h (inr m) = all_map P f xs form h.1 m

pub block_links_are_cids : (codec : ℕ) (b : List ℕ) (links : List (List ℕ)) (form : List ℕ) → HasLinks codec b links → Among form links → IsCid form
block_links_are_cids codec b links form (inl (c, (t, block, e))) m = links_are_cids t form block.0.well_formed (subst (Among form) e m)
block_links_are_cids codec b links form (inr (c, (node, h, e))) m =
    let k = row_of_node b node h in
    all_map IsCid (λ (l : LinkParts). cid_bytes l.hash) (links_in k.0) form (row_links b k.0 [] k.1 IsCid (λ d valid. (d, valid, refl))) (subst (Among form) (e ∙ k.2) m)

within_cid : (n : ℕ) (start form : List ℕ) → IsCid start → IsLinkWithin n start form → IsCid form
within_cid zero start form c e = subst IsCid (sym e) c
within_cid (suc n) start form c w = within_cid n w.1 form (block_links_are_cids w.2.0.codec w.2.0.digest w.0 w.1 w.2.4 w.3) w.4

-- a binary form that is reached from the links of a block is that of a CID
pub reached_cid : (codec : ℕ) (b : List ℕ) (links : List (List ℕ)) (form : List ℕ) → HasLinks codec b links → IsReached form links → IsCid form
reached_cid codec b links form h r = within_cid r.1 r.0 form (block_links_are_cids codec b links r.0 h r.2) r.3

-- names that are reached from CIDs are CIDs
pub reached_of_cids : (cs : List CidParts) (form : List ℕ) → AllByRecursion AreCidParts cs → IsReached form (forms cs) → IsCid form
reached_of_cids cs form all r = within_cid r.1 r.0 form (by cs all r.2) r.3
  where
    by : (xs : List CidParts) → AllByRecursion AreCidParts xs → Among r.0 (forms xs) → IsCid r.0
    by [] h m = absurd m
    by (x ∷ xs) h (inl e) = (x, h.0, e)
    by (x ∷ xs) h (inr m) = by xs h.1 m

-- the binary form of a name that holds no block itself
pub not_inline : (form : List ℕ) (q : CidParts) → AreCidParts q → (IsInline q → ⊥) → form ≡ cid_bytes q → IsInlineForm form → ⊥
not_inline form q p other e i = other (subst IsInline (cid_unique i.0 q i.1 p (sym i.2 ∙ e)) i.3)

-- ---- one link

-- CIDs that are equal have the same binary form
own : (c d : CidParts) → AreCidParts c → AreCidParts d → cid_bytes c ≡ cid_bytes d → c ≡ d
own c d p q e = cid_unique c d p q e

-- the name of a link that holds no block itself
plain_reached : (c q : CidParts) → AreCidParts c → (IsInline c → ⊥) → AreCidParts q → IsReached (cid_bytes q) (cid_bytes c ∷ []) → q ≡ c
plain_reached c q p none r (start, zero, inl at, w) = own q c r p (w ∙ at)
plain_reached c q p none r (start, suc n, inl at, w) = absurd (none (subst IsInline (own w.2.0 c w.2.1 p (sym w.2.2 ∙ at)) w.2.3))
plain_reached c q p none r (start, n, inr m, w) = absurd m

plain_one : (c : CidParts) (held : HeldNames) (old new : CidSet) → (IsInline c → ⊥) → AddsUnheld c held old new → AddsReached (cid_bytes c ∷ []) held old new
plain_one c held old new none a q = (
  λ m. elim ((a.1 q).0 m) [ inl o ↦ inl o | inr (e, free) ↦ inr ((subst AreCidParts (sym e) a.0, (λ i. none (subst IsInline e i)), (cid_bytes c, zero, inl refl, ap cid_bytes e)), free) ],
  λ h. elim h [ inl o ↦ (a.1 q).1 (inl o) | inr (r, free) ↦ (a.1 q).1 (inr (plain_reached c q a.0 none r.0 r.2, free)) ],
)

pub plain_added : {E : Type 0} (r : Result (Unit {0}) E) (c : CidParts) (held : HeldNames) (old new : CidSet) → (IsInline c → ⊥) → OnOk r (AddsUnheld c held old new) → OnOk r (AddsAll (c ∷ []) held old new)
plain_added (Err e) c held old new none a = tt
plain_added (Ok u) c held old new none a = ((a.0, tt), λ q. plain_one c held old new none a q)

-- a name that holds no block
no_reach : (c q : CidParts) → AreCidParts c → IsInline c → ((links : List (List ℕ)) → HasLinks c.codec c.digest links → ⊥) → AreCidParts q → (IsInline q → ⊥) → IsReached (cid_bytes q) (cid_bytes c ∷ []) → ⊥
no_reach c q p i none r other (start, zero, inl at, w) = other (subst IsInline (sym (own q c r p (w ∙ at))) i)
no_reach c q p i none r other (start, suc n, inl at, w) =
    let same = own w.2.0 c w.2.1 p (sym w.2.2 ∙ at) in
    none w.0 (subst (λ (d : CidParts). HasLinks d.codec d.digest w.0) same w.2.4)
no_reach c q p i none r other (start, n, inr m, w) = m

pub none_added : (c : CidParts) (held : HeldNames) (s : CidSet) → AreCidParts c → IsInline c → ((links : List (List ℕ)) → HasLinks c.codec c.digest links → ⊥) → AddsAll (c ∷ []) held s s
none_added c held s p i none = ((p, tt), λ q. (inl, λ h. elim h [ inl o ↦ o | inr (r, free) ↦ absurd (no_reach c q p i none r.0 r.1 r.2) ]))

pub not_block_of : (c : CidParts) (codec : ℕ) (b : List ℕ) (r : Bool) → codec ≡ c.codec → b ≡ c.digest → r ≡ false → IsTrue r ↔ IsBlockOf codec b → (links : List (List ℕ)) → HasLinks c.codec c.digest links → ⊥
not_block_of c codec b r d e f i links h =
    let there : HasLinks codec b links = subst (λ n. HasLinks n b links) (sym d) (subst (λ x. HasLinks c.codec x links) (sym e) h) in
    by r f (i.1 (links, there))
  where
    by : (r : Bool) → r ≡ false → IsTrue r → ⊥
    by true f t = absurd (cc f)
    by false f t = absurd (cc t)

-- a name that holds a block
inner_reach : (c q : CidParts) (links : List (List ℕ)) → AreCidParts c → IsInline c → HasLinks c.codec c.digest links → AreCidParts q → (IsInline q → ⊥) → IsReached (cid_bytes q) (cid_bytes c ∷ []) → IsReached (cid_bytes q) links
inner_reach c q t p i block r other (start, zero, inl at, w) = absurd (other (subst IsInline (sym (own q c r p (w ∙ at))) i))
inner_reach c q t p i block r other (start, suc n, inl at, w) =
    let same = own w.2.0 c w.2.1 p (sym w.2.2 ∙ at) in
    let inside = subst (λ (d : CidParts). HasLinks d.codec d.digest w.0) same w.2.4 in
    (w.1, n, subst (Among w.1) (one_links c.codec c.digest w.0 t inside block) w.3, w.4)
inner_reach c q t p i block r other (start, n, inr m, w) = absurd m

pub inner_added : {E : Type 0} (r : Result (Unit {0}) E) (c : CidParts) (held : HeldNames) (old new : CidSet) → AreCidParts c → IsInline c → AddsLinks c.codec c.digest held old r new → OnOk r (AddsAll (c ∷ []) held old new)
inner_added (Err e) c held old new p i h = tt
inner_added (Ok u) c held old new p i (t, block, h) = (
  (p, tt),
  λ q. (
    λ m. elim ((h q).0 m) [
      | inl o ↦ inl o
      | inr (r, free) ↦ inr ((r.0, r.1, (cid_bytes c, suc r.2.1, inl refl, (t, r.2.0, (c, p, refl, i, block), r.2.2, r.2.3))), free)
    ],
    λ k. elim k [ inl o ↦ (h q).1 (inl o) | inr (r, free) ↦ (h q).1 (inr ((r.0, r.1, inner_reach c q t p i block r.0 r.1 r.2), free)) ],
  ),
)

-- ---- many links

pub added_none : (held : HeldNames) (s : CidSet) → AddsReached [] held s s
added_none held s q = (inl, λ h. elim h [ inl o ↦ o | inr (r, free) ↦ absurd r.2.2 ])

reached_append : (q : CidParts) (xs ys : List (List ℕ)) → IsReachedName q (xs ++ ys) → IsReachedName q xs ⊎ IsReachedName q ys
reached_append q xs ys r = elim (among_append r.2.0 xs ys r.2.2) [
  | inl m ↦ inl (r.0, r.1, (r.2.0, r.2.1, m, r.2.3))
  | inr m ↦ inr (r.0, r.1, (r.2.0, r.2.1, m, r.2.3))
]

append_reached : (q : CidParts) (xs ys : List (List ℕ)) → IsReachedName q xs ⊎ IsReachedName q ys → IsReachedName q (xs ++ ys)
append_reached q xs ys (inl r) = (r.0, r.1, (r.2.0, r.2.1, append_among r.2.0 xs ys (inl r.2.2), r.2.3))
append_reached q xs ys (inr r) = (r.0, r.1, (r.2.0, r.2.1, append_among r.2.0 xs ys (inr r.2.2), r.2.3))

added_both : (xs ys : List (List ℕ)) (held : HeldNames) (old mid new : CidSet) → AddsReached xs held old mid → AddsReached ys held mid new → AddsReached (xs ++ ys) held old new
added_both xs ys held old mid new first next q = (there, back)
  where
    there : Among q (members new) → Among q (members old) ⊎ (IsReachedName q (xs ++ ys) × (IsHeldName q held → ⊥))
    there m = elim ((next q).0 m) [
      | inl o ↦ elim ((first q).0 o) [ inl k ↦ inl k | inr (r, free) ↦ inr (append_reached q xs ys (inl r), free) ]
      | inr (r, free) ↦ inr (append_reached q xs ys (inr r), free)
    ]

    by : IsReachedName q xs ⊎ IsReachedName q ys → (IsHeldName q held → ⊥) → Among q (members new)
    by (inl r) free = (next q).1 (inl ((first q).1 (inr (r, free))))
    by (inr r) free = (next q).1 (inr (r, free))

    back : Among q (members old) ⊎ (IsReachedName q (xs ++ ys) × (IsHeldName q held → ⊥)) → Among q (members new)
    back (inl o) = (next q).1 (inl ((first q).1 (inl o)))
    back (inr (r, free)) = by (reached_append q xs ys r) free

all_push : (xs : List CidParts) (c : CidParts) → AllByRecursion AreCidParts xs → AreCidParts c → AllByRecursion AreCidParts (xs ++ c ∷ [])
all_push [] c h p = (p, tt)
all_push (x ∷ xs) c h p = (h.0, all_push xs c h.1 p)

both_added : (cids : List CidParts) (c : CidParts) (held : HeldNames) (old mid new : CidSet) → AddsAll cids held old mid → AddsAll (c ∷ []) held mid new → AddsAll (cids ++ c ∷ []) held old new
both_added cids c held old mid new first next = (all_push cids c first.0 next.0.0, subst (λ ls. AddsReached ls held old new) (sym (forms_push cids c)) (added_both (forms cids) (cid_bytes c ∷ []) held old mid new first.1 next.1))

pub all_next : (cids : List CidParts) (i : ℕ) (c : CidParts) (held : HeldNames) (old mid new : CidSet) → i < length cids → c ≡ get_or cids i c → AddsAll (take i cids) held old mid → AddsAll (c ∷ []) held mid new → AddsAll (take (i + 1) cids) held old new
all_next cids i c held old mid new within is first next =
    let more : take i cids ++ c ∷ [] ≡ take (i + 1) cids = ap (λ y. take i cids ++ y ∷ []) is ∙ sym (take-suc cids i c within) ∙ ap (λ n. take n cids) (sym (add-one i)) in
    subst (λ cs. AddsAll cs held old new) more (both_added (take i cids) c held old mid new first next)

pub all_done : (cids : List CidParts) (i : ℕ) (held : HeldNames) (old new : CidSet) → i ≡ length cids → AddsAll (take i cids) held old new → AddsAll cids held old new
all_done cids i held old new all h = subst (λ cs. AddsAll cs held old new) (ap (λ n. take n cids) all ∙ take-length cids) h

-- ---- the links of a block

-- the names reached from the links before the rest of a block were added
abbrev pub Adding : ℕ → List ℕ → HeldNames → CidSet → CidSet → List ℕ → Type 0
Adding codec b held old now rest = (found : List CidParts) × LinksSoFar codec b found rest × AddsAll found held old now

pub none_adding : (codec : ℕ) (b : List ℕ) (held : HeldNames) (s : CidSet) → IsBlockOf codec b → Adding codec b held s s b
none_adding codec b held s has = ([], none_so_far codec b has, (tt, added_none held s))

pub one_adding : (codec : ℕ) (b rest following : List ℕ) (c : CidParts) (held : HeldNames) (old mid new : CidSet) (a : Adding codec b held old mid rest) → ((more : List (List ℕ)) × (a.1.more ≡ cid_bytes c ∷ more) × HoldsLinksAs codec following more) → length (cid_bytes c) + length following < length rest → AddsAll (c ∷ []) held mid new → Adding codec b held old new following
one_adding codec b rest following c held old mid new a next shorter added = (
  a.0 ++ c ∷ [],
  one_so_far codec b a.0 c rest following a.1 next shorter,
  both_added a.0 c held old mid new a.2 added,
)

pub all_adding : (codec : ℕ) (b rest : List ℕ) (held : HeldNames) (old new : CidSet) (a : Adding codec b held old new rest) → a.1.more ≡ [] → (links : List (List ℕ)) × HasLinks codec b links × AddsReached links held old new
all_adding codec b rest held old new a none = (a.1.links, a.1.block, subst (λ ls. AddsReached ls held old new) (all_so_far codec b a.0 rest a.1 none) a.2.1)

-- ---- measures

-- a digest inside a block is shorter than the block
pub digest_inside : (b rest following : List ℕ) (c : CidParts) → length rest ≤ length b → length (cid_bytes c) + length following < length rest → length c.digest < length b
digest_inside b rest following c fits shorter = omega (arith, digest_le, fits, shorter)
  where
    digest_le : length c.digest ≤ length (cid_bytes c)
    digest_le = by (c.version == 0)
      where
        by : (v : Bool) → length c.digest ≤ length (if v then 0x12 ∷ 0x20 ∷ c.digest else 0x01 ∷ (varint c.codec ++ (varint c.hash_code ++ (varint (length c.digest) ++ c.digest))))
        by true = omega arith
        by false = omega (arith, length-append (varint c.codec) (varint c.hash_code ++ (varint (length c.digest) ++ c.digest)), length-append (varint c.hash_code) (varint (length c.digest) ++ c.digest), length-append (varint (length c.digest)) c.digest)

-- the members are the names that are reached from the links
abbrev pub HoldsReached : CidSet → List (List ℕ) → Type 0
HoldsReached s links = (q : CidParts) → Among q (members s) ↔ IsReachedName q links

pub reached_only : (held : HeldNames) (s new : CidSet) (links : List (List ℕ)) → HoldsNone held → members s ≡ [] → AddsReached links held s new → HoldsReached new links
reached_only held s new links free none h q = (λ m. elim ((h q).0 m) [ inl o ↦ absurd (subst (Among q) none o) | inr r ↦ r.0 ], λ r. (h q).1 (inr (r, free q)))

pub first_names : {E : Type 0} (b : List ℕ) (r : Result (Unit {0}) E) (cids items : List CidParts) (held : HeldNames) (start new : CidSet) → HoldsNone held → members start ≡ [] → AreFirstLinks b (forms cids) → false ≡ is_err r → OnOk r (AddsAll cids held start new) → items ≡ members new → AreFirstNames b items
first_names b (Err e) cids items held start new free none first wrong h is = absurd (cc wrong)
first_names b (Ok u) cids items held start new free none first right h is =
    let reached = reached_only held start new (links_of first.0) free none (subst (λ ls. AddsReached ls held start new) first.4 h.1) in
    (first.0, first.1, first.2, first.3, λ q. subst (λ ms. Among q ms ↔ IsReachedName q (links_of first.0)) (sym is) (reached q))

-- the names that are reached from the links of a block
pub names_of : (codec : ℕ) (b : List ℕ) (items : List CidParts) (held : HeldNames) (start new : CidSet) → HoldsNone held → members start ≡ [] → ((links : List (List ℕ)) × HasLinks codec b links × AddsReached links held start new) → items ≡ members new → AreNamesOf codec b items
names_of codec b items held start new free none h is =
    let reached = reached_only held start new h.0 free none h.2 in
    (h.0, h.1, λ q. subst (λ ms. Among q ms ↔ IsReachedName q h.0) (sym is) (reached q))

-- a list without binary forms is empty
pub no_forms : (cids : List CidParts) → forms cids ≡ [] → cids ≡ []
no_forms [] e = refl
no_forms (c ∷ cids) e = absurd (cc e)
