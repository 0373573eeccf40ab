-- Sections that are added to a store one by one, and what a refusal leaves.
use Rattle.std.proofs.Common.{◌≡◌, inl, inr, ℕ, List, [], ◌∷◌, ◌++◌, refl, sym, ◌∙◌, subst, IsTrue, arith, ◌⊎◌}
use Rattle.std.proofs.Math.Decide.{ℕ_discrete}
use mathlib.Core.List.{List-discrete}
use Rattle.sqlite_trees.specs.Tree.{Trees}
use Rattle.sqlite_trees.specs.View.{View, IsClean, Tells}
use Rattle.sqlite_trees.specs.declared.store.Store.{Ghosts}
use Rattle.ipld_tree.specs.Cid.{CidParts, cid_bytes}
use Rattle.files_car.specs.Car.{Section}
use Rattle.ipld_links.proofs.Members.{among_push, push_among}
use Rattle.ipld_links.specs.Sets.{Among}
use Rattle.store_rows.specs.Ends.{Quiet, KeepsOthers, IsOfBlocks, IsOfRoots}
use Rattle.store_rows.specs.Rows.{block_tree, name_tree, block_row, name_entry, IsStored, IsListed, IsTooLong}
use Rattle.store_rows.specs.RootRows.{root_tree, AreRoots}
use Rattle.store_on_disk.specs.Stored.{IsAddedTo, IsAdded, IsSame, IsUndone, FailsByStore, IsTooLongFor, PutRefused}
use Rattle.store_on_disk.specs.Roots.{GainsRoots, MayKeepRoots, AreRootsAdded}
use Rattle.store_on_disk.specs.Cars.{IsNameIn, IsSectionIn, HoldsSections, IsAddedAll, AddsSections, NotKept}
use Rattle.store_on_disk.specs.declared.error.StoreRefusal.{StoreRefusal}
use Rattle.store_on_disk.specs.declared.error.StoreRefusal.TheVariants as refusal
use Rattle.store_rows.proofs.Causes.{cause_then}
pub use Rattle.store_rows.proofs.Ending.{quiet_itself, quiet_then}
use Rattle.store_on_disk.proofs.Calls.{cause_until}

-- ---- what is stored

name_push : (ss : List Section) (s : Section) (q : List ℕ) → IsNameIn (ss ++ s ∷ []) q → IsNameIn ss q ⊎ (cid_bytes s.0 ≡ q)
name_push ss s q n = elim (among_push n.0 ss s n.1) [ inl m ↦ inl (n.0, m, n.2) | inr e ↦ inr (subst (λ (x : Section). cid_bytes x.0 ≡ q) e n.2) ]

pub push_name : (ss : List Section) (s : Section) (q : List ℕ) → IsNameIn ss q ⊎ (cid_bytes s.0 ≡ q) → IsNameIn (ss ++ s ∷ []) q
push_name ss s q (inl n) = (n.0, push_among n.0 ss s (inl n.1), n.2)
push_name ss s q (inr e) = (s, push_among s ss s (inr refl), e)

section_push : (ss : List Section) (s : Section) (q b : List ℕ) → IsSectionIn ss q b → IsSectionIn (ss ++ s ∷ []) q b
section_push ss s q b n = (n.0, push_among n.0 ss s (inl n.1), n.2, n.3)

stored_as : (old new : Trees) (q b : List ℕ) → new name_tree ≡ old name_tree → new block_tree ≡ old block_tree → IsStored new q b → IsStored old q b
stored_as old new q b names blocks s = record { id = s.id; listed = subst (Among (name_entry q s.id)) names s.listed; row = subst (Among (block_row s.id q b)) blocks s.row }

-- roots alone were written
holds_none : (old new : Trees) → KeepsOthers IsOfRoots old new → HoldsSections old new []
holds_none old new h = record {
  named = λ q b n s. absurd n.1;
  each = λ q n. absurd n.1;
  others = λ q b none. (stored_as old new q b names blocks, stored_as new old q b (sym names) (sym blocks));
  lists = λ q. (λ l. inr (subst (λ es. IsListed es q) names l), λ k. elim k [ inl n ↦ absurd n.1 | inr l ↦ subst (λ es. IsListed es q) (sym names) l ]);
  beside = λ t out. h t (λ r. out (inr r));
}
  where
    names : new name_tree ≡ old name_tree
    names = h name_tree (λ e. cc e)

    blocks : new block_tree ≡ old block_tree
    blocks = h block_tree (λ e. cc e)

holds_more : (old mid new : Trees) (ss : List Section) (s : Section) → HoldsSections old mid ss → IsAddedTo mid new s.0 s.1 → HoldsSections old new (ss ++ s ∷ [])
holds_more old mid new ss s h a = record {
  named = λ q b n t. named q b n t (List-discrete ℕ_discrete q (cid_bytes s.0));
  each = λ q n. each q n (List-discrete ℕ_discrete q (cid_bytes s.0));
  others = λ q b none.
      let apart : q ≡ cid_bytes s.0 → ⊥ = λ e. none (push_name ss s q (inr (sym e))) in
      let before : IsNameIn ss q → ⊥ = λ n. none (push_name ss s q (inl n)) in (
        λ t. (h.others q b before).0 ((a.others q b apart).0 t),
        λ t. (a.others q b apart).1 ((h.others q b before).1 t),
      );
  lists = λ q. (
    λ l. elim ((a.lists q).0 l) [
      | inl e ↦ inl (push_name ss s q (inr (sym e)))
      | inr was ↦ elim ((h.lists q).0 was) [ inl n ↦ inl (push_name ss s q (inl n)) | inr o ↦ inr o ]
    ],
    λ k. elim k [
      | inl n ↦ elim (name_push ss s q n) [ inl m ↦ (a.lists q).1 (inr ((h.lists q).1 (inl m))) | inr e ↦ (a.lists q).1 (inl (sym e)) ]
      | inr l ↦ (a.lists q).1 (inr ((h.lists q).1 (inr l)))
    ],
  );
  beside = λ t out. a.beside t (λ b. out (inl b)) ∙ h.beside t out;
}
  where
    earlier : (q : List ℕ) → IsNameIn (ss ++ s ∷ []) q → (q ≡ cid_bytes s.0 → ⊥) → IsNameIn ss q
    earlier q n apart = elim (name_push ss s q n) [ inl m ↦ m | inr e ↦ absurd (apart (sym e)) ]

    named : (q b : List ℕ) → IsNameIn (ss ++ s ∷ []) q → IsStored new q b → Dec (q ≡ cid_bytes s.0) → IsSectionIn (ss ++ s ∷ []) q b
    named q b n t (yes e) = (s, push_among s ss s (inr refl), sym e, sym ((a.stored b).0 (subst (λ x. IsStored new x b) e t)))
    named q b n t (no apart) = section_push ss s q b (h.named q b (earlier q n apart) ((a.others q b apart).0 t))

    each : (q : List ℕ) → IsNameIn (ss ++ s ∷ []) q → Dec (q ≡ cid_bytes s.0) → (b : List ℕ) × IsStored new q b
    each q n (yes e) = (s.1, subst (λ x. IsStored new x s.1) (sym e) ((a.stored s.1).1 refl))
    each q n (no apart) = let t = h.each q (earlier q n apart) in (t.0, (a.others q t.0 apart).1 t.1)

-- blocks alone were written
gains_same : (old mid new : Trees) (roots : List CidParts) → KeepsOthers IsOfBlocks mid new → GainsRoots old mid roots → GainsRoots old new roots
gains_same old mid new roots beside h names are = let k = h names are in (k.0, subst (λ rs. AreRoots rs k.0) (sym (beside root_tree not_blocks)) k.1, k.2)
  where
    not_blocks : IsOfBlocks root_tree → ⊥
    not_blocks (inl e) = cc e
    not_blocks (inr e) = cc e

added_none : (old new : View) (roots : List CidParts) → AreRootsAdded old new roots → IsAddedAll old new roots []
added_none old new roots h = record { trees = holds_none old.trees new.trees h.beside; gains = h.roots; committed = h.committed; reals = h.reals; is_open = h.is_open; broken = h.broken }

added_more : (old mid new : View) (roots : List CidParts) (ss : List Section) (s : Section) → IsAddedAll old mid roots ss → IsAdded mid new s.0 s.1 → IsAddedAll old new roots (ss ++ s ∷ [])
added_more old mid new roots ss s h a = record {
  trees = holds_more old.trees mid.trees new.trees ss s h.trees a.trees;
  gains = gains_same old.trees mid.trees new.trees roots a.trees.beside h.gains;
  committed = a.committed ∙ h.committed;
  reals = a.reals ∙ h.reals;
  is_open = a.is_open ∙ sym a.was_open ∙ h.is_open;
  broken = a.sound ∙ sym a.was_sound ∙ h.broken;
}

-- ---- stores

module _ {S : Type 0} (g : Ghosts S) (roots : List CidParts) where
  pub adds_none : (old new : S) → MayKeepRoots (g.view old) roots → (IsClean (g.view new) → AreRootsAdded (g.view old) (g.view new) roots) → Quiet g old new → AddsSections g roots [] old new
  adds_none old new keeps a quiet = record { keeps = keeps; added = λ clean. added_none (g.view old) (g.view new) roots (a clean); quiet = quiet }

  pub adds_more : (ss : List Section) (s : Section) (old mid new : S) → AddsSections g roots ss old mid → (IsClean (g.view new) → IsAdded (g.view mid) (g.view new) s.0 s.1) → Quiet g mid new → AddsSections g roots (ss ++ s ∷ []) old new
  adds_more ss s old mid new h a quiet = record {
    keeps = h.keeps;
    added = λ clean. added_more (g.view old) (g.view mid) (g.view new) roots ss s (h.added (omega (arith, quiet.clean))) (a clean);
    quiet = quiet_then g old mid new h.quiet quiet;
  }

-- ---- after a refusal

-- what was committed is the same
pub record KeepsLast (old new : View) : Type 0 where
  pub was_open : IsTrue new.is_open → IsTrue old.is_open
  pub committed : IsTrue new.is_open → new.committed ≡ old.committed

pub last_itself : (v : View) → KeepsLast v v
last_itself v = record { was_open = λ h. h; committed = λ h. refl }

pub last_undone : (old new : View) → IsUndone old new → KeepsLast old new
last_undone old new h = record { was_open = h.was_open; committed = h.committed }

pub last_same : (old new : View) → IsSame old new → KeepsLast old new
last_same old new h = record { was_open = λ o. sym h.is_open ∙ o; committed = λ o. h.committed }

pub last_added : (old new : View) (roots : List CidParts) (ss : List Section) → IsAddedAll old new roots ss → KeepsLast old new
last_added old new roots ss h = record { was_open = λ o. sym h.is_open ∙ o; committed = λ o. h.committed }

pub last_then : (a b c : View) → KeepsLast a b → KeepsLast b c → KeepsLast a c
last_then a b c p q = record { was_open = λ o. p.was_open (q.was_open o); committed = λ o. q.committed o ∙ p.committed (q.was_open o) }

pub undone_then : (a b c : View) → KeepsLast a b → IsUndone b c → IsUndone a c
undone_then a b c p q = record {
  was_open = λ o. p.was_open (q.was_open o);
  trees = λ o. q.trees o ∙ p.committed (q.was_open o);
  committed = λ o. q.committed o ∙ p.committed (q.was_open o);
}

module _ {S : Type 0} (g : Ghosts S) where
  -- a failure after a call that kept what was committed
  pub fails_after : (U V : Type 0) (old mid new : S) (told : StoreRefusal) → Quiet g old mid → (IsClean (g.view new) → IsClean (g.view mid))
      → (IsClean (g.view mid) → ((g.view mid).is_broken ≡ (g.view old).is_broken) × KeepsLast (g.view old) (g.view mid) × (U → V)) → FailsByStore g U mid new told → FailsByStore g V old new told
  fails_after U V old mid new told before was same f = record {
    error = f.error;
    tells = f.tells;
    blamed = f.blamed;
    caused = λ clean. let is = same (was clean) in cause_then (g.view old) (g.view mid) (g.faults old) (g.faults mid) (g.faults new) U V f.error before.counts is.0 is.2 (f.caused clean);
    undone = λ clean. undone_then (g.view old) (g.view mid) (g.view new) (same (was clean)).1 (f.undone clean);
  }

  -- after roots and sections that were added
  pub fails_from : (U V : Type 0) (roots : List CidParts) (ss : List Section) (old mid new : S) (told : StoreRefusal) → AddsSections g roots ss old mid → (IsClean (g.view new) → IsClean (g.view mid)) → (IsClean (g.view mid) → U → V) → FailsByStore g U mid new told → FailsByStore g V old new told
  fails_from U V roots ss old mid new told h was gives =
      fails_after U V old mid new told h.quiet was (λ clean. let a = h.added clean in (a.broken, last_added (g.view old) (g.view mid) roots ss a, gives clean))

  -- a failure before a rollback
  pub fails_until : (U : Type 0) (old mid new : S) (told : StoreRefusal) → Quiet g mid new → g.blamed new ≡ g.blamed mid → (IsClean (g.view new) → IsUndone (g.view mid) (g.view new)) → FailsByStore g U old mid told → FailsByStore g U old new told
  fails_until U old mid new told quiet blame undone f = record {
    error = f.error;
    tells = f.tells;
    blamed = subst (λ b. Tells b f.error) (sym blame) f.blamed;
    caused = λ clean. cause_until (g.view old) (g.faults old) (g.faults mid) (g.faults new) U f.error quiet.counts (f.caused (omega (arith, quiet.clean)));
    undone = λ clean. undone_then (g.view old) (g.view mid) (g.view new) (last_undone (g.view old) (g.view mid) (f.undone (omega (arith, quiet.clean)))) (undone clean);
  }

  pub not_kept : (roots : List CidParts) (ss : List Section) (s : Section) (old mid refused new : S) (told : StoreRefusal) → AddsSections g roots ss old mid → Quiet g mid refused → Quiet g refused new → g.blamed new ≡ g.blamed refused
      → (IsClean (g.view new) → IsUndone (g.view refused) (g.view new)) → PutRefused g s mid refused told → NotKept g ss old new s told
  not_kept roots ss s old mid refused new (refusal.Unsound e) h quiet last blame undone p = p.0
  not_kept roots ss s old mid refused new refusal.NoNumber h quiet last blame undone p = λ clean.
      let following : IsClean (g.view refused) = omega (arith, last.clean) in
      let was : IsClean (g.view mid) = omega (arith, quiet.clean, last.clean) in
      record { mid = (g.view mid).trees; holds = (h.added was).trees; ends = (p following).0 }
  not_kept roots ss s old mid refused new told h quiet last blame undone p =
      fails_until (IsTooLongFor (g.view old) s) old refused new told last blame undone
      (fails_from (IsTooLongFor (g.view mid) s) (IsTooLongFor (g.view old) s) roots ss old mid refused told h (λ clean. omega (arith, quiet.clean)) (λ clean. subst (λ r. IsTooLong r (cid_bytes s.0) s.1) (h.added clean).reals) p)
