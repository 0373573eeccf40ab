-- Links that name no held block.
use Rattle.std.proofs.Common.{◌≡◌, ◌⊎◌, inl, inr, ℕ, ◌+◌, ◌<◌, ◌≤◌, List, [], ◌∷◌, ◌++◌, length, get_or, take, true, false, refl, sym, ap, ◌∙◌, subst, arith, add-one, ◌↔◌, Option, None, Some, is_some, Result, Ok, Err, OnOk, BTreeMap, take-suc}
use Rattle.std.specs.List.{AllByRecursion}
use Rattle.std.specs.BTreeMap.{get}
use Rattle.std.proofs.Math.Seq.{take-length}
use Rattle.serde_ipld_dagcbor.specs.Cid.{CidParts, AreCidParts, cid_cmp}
use Rattle.ipld_links.specs.Sets.{Among, members, AddsCid}
use Rattle.ipld_links.specs.declared.cid_set.CidSet.{CidSet}
use Rattle.ipld_links.proofs.Members.{among_push, push_among}
use Rattle.dagcbor_blocks.specs.Steps.{IsUnheld, AddsOne}

-- ---- one link

pub held_link : {X : Type 0} (blocks : BTreeMap CidParts X) (link : CidParts) (s : CidSet) → AreCidParts link → true ≡ is_some (get cid_cmp blocks link) → AddsOne {E = ℕ} blocks link s (Ok tt) s
held_link blocks link s valid some = (
  valid,
  λ q. (
    inl,
    λ h. elim h [
      | inl m ↦ m
      | inr u ↦ absurd (no_some (get cid_cmp blocks link) some (subst (IsUnheld blocks) u.0 u.1))
    ],
  ),
)
  where
    no_some : {X : Type 0} (o : Option X) → true ≡ is_some o → o ≡ None → ⊥
    no_some o t e = let f : is_some o ≡ false = ap is_some e in absurd (cc (t, f))

pub unheld : {X : Type 0} (o : Option X) → false ≡ is_some o → o ≡ None
unheld None e = refl
unheld (Some x) e = absurd (cc e)

pub put_link : {X E : Type 0} (r : Result (Unit {0}) E) (blocks : BTreeMap CidParts X) (link : CidParts) (old new : CidSet) → IsUnheld blocks link → OnOk r (AddsCid link old new) → AddsOne blocks link old r new
put_link (Err e) blocks link old new free put = tt
put_link (Ok u) blocks link old new free put = (
  put.0,
  λ q. (
    λ m. elim ((put.1 q).0 m) [ inl o ↦ inl o | inr e ↦ inr (e, subst (IsUnheld blocks) (sym e) free) ],
    λ h. (put.1 q).1 (elim h [ inl o ↦ inl o | inr u ↦ inr u.0 ]),
  ),
)

-- ---- many links

all_push : (xs : List CidParts) (y : CidParts) → AllByRecursion AreCidParts xs → AreCidParts y → AllByRecursion AreCidParts (xs ++ y ∷ [])
all_push [] y h p = (p, tt)
all_push (x ∷ xs) y h p = (h.0, all_push xs y h.1 p)

-- the links so far, if they name no stored block, were added to the set
abbrev pub AddedSoFar : {X : Type 0} → BTreeMap CidParts X → List CidParts → CidSet → CidSet → Type 0
AddedSoFar blocks links old new = AllByRecursion AreCidParts links × ((q : CidParts) → Among q (members new) ↔ (Among q (members old) ⊎ (Among q links × IsUnheld blocks q)))

pub added_none : {X : Type 0} (blocks : BTreeMap CidParts X) (s : CidSet) → AddedSoFar blocks [] s s
added_none blocks s = (tt, λ q. (inl, λ h. elim h [ inl m ↦ m | inr u ↦ absurd u.0 ]))

added_push : {X : Type 0} (blocks : BTreeMap CidParts X) (links : List CidParts) (link : CidParts) (old mid new : CidSet) → AddedSoFar blocks links old mid → AddsOne {E = ℕ} blocks link mid (Ok tt) new → AddedSoFar blocks (links ++ link ∷ []) old new
added_push blocks links link old mid new h one = (
  all_push links link h.0 one.0,
  λ q. (
    λ m. elim ((one.1 q).0 m) [
      | inl n ↦ elim ((h.1 q).0 n) [ inl o ↦ inl o | inr u ↦ inr (push_among q links link (inl u.0), u.1) ]
      | inr u ↦ inr (push_among q links link (inr u.0), u.1)
    ],
    λ m. elim m [
      | inl o ↦ (one.1 q).1 (inl ((h.1 q).1 (inl o)))
      | inr u ↦ elim (among_push q links link u.0) [
        | inl n ↦ (one.1 q).1 (inl ((h.1 q).1 (inr (n, u.1))))
        | inr e ↦ (one.1 q).1 (inr (e, u.1))
      ]
    ],
  ),
)

pub added_next : {X : Type 0} (blocks : BTreeMap CidParts X) (links : List CidParts) (i : ℕ) (link : CidParts) (old mid new : CidSet) → i < length links → link ≡ get_or links i link
    → AddedSoFar blocks (take i links) old mid → AddsOne {E = ℕ} blocks link mid (Ok tt) new → AddedSoFar blocks (take (i + 1) links) old new
added_next blocks links i link old mid new within is h one =
    let more : take i links ++ link ∷ [] ≡ take (i + 1) links = ap (λ y. take i links ++ y ∷ []) is ∙ sym (take-suc links i link within) ∙ ap (λ n. take n links) (sym (add-one i)) in
    subst (λ ls. AddedSoFar blocks ls old new) more (added_push blocks (take i links) link old mid new h one)

pub added_all : {X : Type 0} (blocks : BTreeMap CidParts X) (links : List CidParts) (i : ℕ) (old new : CidSet) → i ≤ length links → length links ≤ i → AddedSoFar blocks (take i links) old new → AddedSoFar blocks links old new
added_all blocks links i old new below end h =
    let same : i ≡ length links = omega (arith, below, end) in
    subst (λ ls. AddedSoFar blocks ls old new) (ap (λ n. take n links) same ∙ take-length links) h
