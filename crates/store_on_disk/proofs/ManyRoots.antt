-- Roots that are added to a store one by one.
use Rattle.std.proofs.Common.{◌≡◌, inl, inr, ℕ, zero, suc, ◌+◌, ◌<◌, ◌≤◌, List, [], ◌∷◌, ◌++◌, length, get_or, take, refl, sym, ap, ◌∙◌, subst, arith, add-one, take-suc}
use Rattle.std.proofs.Math.Seq.{take-length}
use Rattle.sqlite_trees.specs.Tree.{Trees}
use Rattle.sqlite_trees.specs.View.{View, IsClean, KeepsSchema}
use Rattle.sqlite_trees.specs.declared.store.Store.{Ghosts}
use Rattle.sqlite_trees.specs.declared.error.StoreError.{StoreError}
use Rattle.sqlite_trees.specs.declared.error.StoreError.TheVariants as stored
use Rattle.ipld_tree.specs.Cid.{CidParts, cid_bytes}
use Rattle.ipld_links.specs.Sets.{AddsCid}
use Rattle.ipld_links.specs.declared.cid_set.CidSet.{CidSet}
use Rattle.ipld_links.proofs.Members.{push_among}
use Rattle.store_rows.specs.RootRows.{root_tree, AreRoots, IsRootTooLong}
use Rattle.store_rows.specs.Ends.{Quiet}
use Rattle.store_rows.proofs.Causes.{cause_then}
use Rattle.store_on_disk.specs.Stored.{IsSame, TellsOfStore, FailsByStore}
use Rattle.store_on_disk.specs.Roots.{JoinsRoots, AddsInTurn, IsRootAdded, RootRefused, AreRootsAdded, ComesNext, IsRootTooLongFor, IsAnyTooLong, RootsRefused, HasJust, KnowsRoots}
use Rattle.store_on_disk.specs.declared.error.StoreRefusal.{StoreRefusal}
use Rattle.store_on_disk.specs.declared.error.StoreRefusal.TheVariants as refusal
use Rattle.store_on_disk.proofs.Adding.{KeepsLast, fails_after}
use Rattle.store_on_disk.proofs.Calls.{not_number}
use Rattle.store_on_disk.proofs.Rooting.{just_push}
use Rattle.store_on_disk.proofs.Unlisted.{item_among}

-- ---- names

in_turn_push : (old names mid : List CidParts) (name : CidParts) (new : List CidParts) → AddsInTurn old names mid → JoinsRoots mid name new → AddsInTurn old (names ++ name ∷ []) new
in_turn_push old [] mid name new h a = (new, subst (λ m. JoinsRoots m name new) h a, refl)
in_turn_push old (n ∷ names) mid name new h a = (h.0, h.1, in_turn_push h.0 names mid name new h.2 a)

stands_at : (names : List CidParts) (i : ℕ) (name : CidParts) → i < length names → name ≡ get_or names i name → ComesNext (take i names) name names
stands_at [] i name within is = absurd (omega (arith, within))
stands_at (n ∷ names) zero name within is = (names, ap (λ x. x ∷ names) (sym is))
stands_at (n ∷ names) (suc i) name within is = let k = stands_at names i name (omega (arith, within)) is in (k.0, ap (λ ns. n ∷ ns) k.1)

-- ---- adding

longer : (names : List CidParts) (i : ℕ) (name : CidParts) → i < length names → name ≡ get_or names i name → take i names ++ name ∷ [] ≡ take (i + 1) names
longer names i name within is = ap (λ y. take i names ++ y ∷ []) is ∙ sym (take-suc names i name within) ∙ ap (λ n. take n names) (sym (add-one i))

pub roots_none : (old new : View) → IsSame old new → KeepsSchema old new → AreRootsAdded old new []
roots_none old new h s = record {
  roots = λ names are. (names, subst (λ (t : Trees). AreRoots (t root_tree) names) (sym h.trees) are, refl);
  same = λ names are all. h.trees;
  beside = λ t out. ap (λ (f : Trees). f t) h.trees;
  committed = h.committed;
  reals = s.reals;
  is_open = h.is_open;
  broken = h.broken;
}

pub known_since : (old new : View) (known : CidSet) → IsSame old new → KnowsRoots old known → KnowsRoots new known
known_since old new known h k = (k.0, subst (λ (t : Trees). AreRoots (t root_tree) k.0) (sym h.trees) k.1, k.2)

-- ---- the set of the names

pub just_more : (names : List CidParts) (i : ℕ) (name : CidParts) (before after : CidSet) → i < length names → name ≡ get_or names i name → HasJust (take i names) before → AddsCid name before after → HasJust (take (i + 1) names) after
just_more names i name before after within is h add = subst (λ ns. HasJust ns after) (longer names i name within is) (just_push (take i names) name before after h add)

roots_more : (old mid new : View) (names : List CidParts) (name : CidParts) → AreRootsAdded old mid names → IsRootAdded mid new name → AreRootsAdded old new (names ++ name ∷ [])
roots_more old mid new names name h a = record {
  roots = λ before are. let k = h.roots before are in let w = a.roots k.0 k.1 in (w.0, w.1, in_turn_push before names k.0 name w.0 k.2 w.2);
  same = λ before are all.
      let was : mid.trees ≡ old.trees = h.same before are (λ c m. all c (push_among c names name (inl m))) in
      a.same before (subst (λ (t : Trees). AreRoots (t root_tree) before) (sym was) are) (all name (push_among name names name (inr refl))) ∙ was;
  beside = λ t out. a.beside t out ∙ h.beside t out;
  committed = a.committed ∙ h.committed;
  reals = a.reals ∙ h.reals;
  is_open = a.is_open ∙ h.is_open;
  broken = a.broken ∙ h.broken;
}

pub roots_next : (old mid new : View) (names : List CidParts) (i : ℕ) (name : CidParts) → i < length names → name ≡ get_or names i name → AreRootsAdded old mid (take i names) → IsRootAdded mid new name → AreRootsAdded old new (take (i + 1) names)
roots_next old mid new names i name within is h a = subst (AreRootsAdded old new) (longer names i name within is) (roots_more old mid new (take i names) name h a)

pub all_taken : (names : List CidParts) (i : ℕ) → i ≤ length names → length names ≤ i → take i names ≡ names
all_taken names i below end =
    let same : i ≡ length names = omega (arith, below, end) in
    ap (λ n. take n names) same ∙ take-length names

pub last_rooted : (old new : View) (names : List CidParts) → AreRootsAdded old new names → KeepsLast old new
last_rooted old new names h = record { was_open = λ o. sym h.is_open ∙ o; committed = λ o. h.committed }

-- ---- refusals

not_earlier : (e : StoreError) → TellsOfStore e refusal.EarlierVersion → ⊥
not_earlier stored.OutOfMemory h = cc
not_earlier stored.Broken (inl h) = cc
not_earlier stored.Broken (inr h) = h
not_earlier _ h = cc

fails_wider : {S : Type 0} (g : Ghosts S) (V : Type 0) (old new : S) (told : StoreRefusal) → FailsByStore g ⊥ old new told → FailsByStore g V old new told
fails_wider g V old new told f = record {
  error = f.error;
  tells = f.tells;
  blamed = f.blamed;
  caused = λ clean. cause_then (g.view old) (g.view old) (g.faults old) (g.faults old) (g.faults new) ⊥ V f.error (omega arith) refl (λ u. absurd u) (f.caused clean);
  undone = f.undone;
}

-- the store failed before any was added
pub unlisted : {S : Type 0} (g : Ghosts S) (names : List CidParts) (old new : S) (told : StoreRefusal) → FailsByStore g ⊥ old new told → RootsRefused g names old new told
unlisted g names old new refusal.EarlierVersion f = absurd (not_earlier f.error f.tells)
unlisted g names old new refusal.NoNumber f = absurd (not_number f.error f.tells)
unlisted g names old new told f = fails_wider g (IsAnyTooLong (g.view old) names) old new told f

module _ {S : Type 0} (g : Ghosts S) (names : List CidParts) (i : ℕ) (name : CidParts) (old mid new : S) (within : i < length names) (is : name ≡ get_or names i name) (added : IsClean (g.view mid) → AreRootsAdded (g.view old) (g.view mid) (take i names))
    (before : Quiet g old mid) (quiet : Quiet g mid new) where
  too_long : IsClean (g.view mid) → IsRootTooLongFor (g.view mid) name → IsAnyTooLong (g.view old) names
  too_long clean long = (name, item_among names i name within is, subst (λ r. IsRootTooLong r (cid_bytes name)) (added clean).reals long)

  pub roots_refused : (told : StoreRefusal) → RootRefused g name mid new told → RootsRefused g names old new told
  roots_refused refusal.EarlierVersion p = absurd (not_earlier p.error p.tells)
  roots_refused refusal.NoNumber p = λ clean.
      let k = p clean in
      record { first = take i names; name = name; held = g.view mid; stands = stands_at names i name within is; added = added (omega (arith, quiet.clean)); lacks = k.0; same = k.1 }
  roots_refused told p = fails_after g (IsRootTooLongFor (g.view mid) name) (IsAnyTooLong (g.view old) names) old mid new told before (λ clean. omega (arith, quiet.clean))
      (λ clean. let a = added clean in (a.broken, last_rooted (g.view old) (g.view mid) (take i names) a, too_long clean)) p
