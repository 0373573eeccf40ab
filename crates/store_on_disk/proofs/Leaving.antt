-- That a call leaves a store, whenever a crash cuts it off.
use Rattle.std.proofs.Common.{arith, ◌≡◌, ◌⊎◌, inl, inr, false, sym, ap, ◌∙◌, subst, IsTrue}
use Rattle.sqlite_trees.specs.Tree.{Trees}
use Rattle.sqlite_trees.specs.View.{IsClean, IsRolledBack}
use Rattle.sqlite_trees.specs.Objects.{catalog_tree, version_tree}
use Rattle.sqlite_trees.specs.declared.store.Store.{Ghosts}
use Rattle.store_rows.specs.Ends.{Quiet}
use Rattle.store_on_disk.specs.Stored.{IsReady}
use Rattle.store_on_disk.specs.Opened.{OnlyMarks, IsOpened}
use Rattle.store_on_disk.specs.Leaving.{IsStoreList, AreStoreTrees, LeavesStore, StillLeavesStore, LeavesAsListed, IsSpared}
use Rattle.store_on_disk.proofs.Keeping.{Ready, open_of}

unmarked : catalog_tree ≡ version_tree → ⊥
unmarked e = omega (arith, e)

module _ {S : Type 0} (g : Ghosts S) where
  -- a call that has no new outcome
  pub still_quiet : (old new : S) → Quiet g old new → StillLeavesStore g old new
  still_quiet old new quiet clean leaves db may = leaves db (quiet.outcomes db may)

  pub still_then : (old mid new : S) → (IsClean (g.view new) → IsClean (g.view mid)) → StillLeavesStore g old mid → StillLeavesStore g mid new → StillLeavesStore g old new
  still_then old mid new was first then clean leaves = then clean (first (was clean) leaves)

  -- an open store leaves what was committed
  pub leaves_open : (it : S) → ((db : Trees) → IsTrue (g.view it).is_open → g.recovers it db → db ≡ (g.view it).committed) → IsTrue (g.view it).is_open → IsReady (g.view it) → IsStoreList ((g.view it).committed catalog_tree)
      → LeavesStore g.recovers it
  leaves_open it settled on ready list db may = subst AreStoreTrees (sym (settled db on may)) (record { listed = list; keyed = ready.committed on; roots = ready.last_roots on })

  -- a commit leaves what was committed, or what the transaction saw
  pub still_committed : (old new : S) → ((g.view old).is_open ≡ false → IsTrue (g.view old).is_broken) → (IsTrue (g.view old).is_open → g.recovers old (g.view old).committed) → Ready g old
      → (IsClean (g.view new) → IsClean (g.view old)) → ((db : Trees) → g.recovers new db → (((g.view old).is_broken ≡ false) × (db ≡ (g.view old).trees)) ⊎ g.recovers old db)
      → StillLeavesStore g old new
  still_committed old new shut stays ready was crash clean leaves db may = elim (crash db may) [
    | inl now ↦
        let on = open_of (g.view old) shut now.0 in
        let held = ready (was clean) in
        subst AreStoreTrees (sym now.1) (record {
          listed = subst IsStoreList (sym (held.listed on)) (leaves (g.view old).committed (stays on)).listed;
          keyed = held.keyed on;
          roots = held.roots on;
        })
    | inr before ↦ leaves db before
  ]

  -- an opened database leaves what was committed
  pub leaves_opened : (old it : S) → ((db : Trees) → IsTrue (g.view it).is_open → g.recovers it db → db ≡ (g.view it).committed) → (IsClean (g.view it) → IsClean (g.view old)) → (IsClean (g.view it) → IsOpened (g.view old) (g.view it)) → Ready g it
      → LeavesAsListed g old it
  leaves_opened old it settled was opened ready clean list =
      let o = opened clean in
      leaves_open it settled o.is_open (ready clean) (subst IsStoreList (sym (ap (λ (t : Trees). t catalog_tree) o.committed ∙ o.now.others catalog_tree unmarked)) (list (was clean)))

  -- a database that was not taken over
  pub is_spared : (old rolled new : S) → IsRolledBack (g.view old) (g.view rolled) → Quiet g old rolled → (IsClean (g.view new) → IsClean (g.view rolled))
      → ((db : Trees) → g.recovers new db → g.recovers rolled db ⊎ (IsClean (g.view new) → IsTrue (g.view rolled).is_open × OnlyMarks (g.view rolled).trees db)) → IsSpared g old new
  is_spared old rolled new undone quiet was crash db may = elim (crash db may) [
    | inl before ↦ inl (quiet.outcomes db before)
    | inr marks ↦ inr (λ clean. let m = marks clean in ((undone.kept (was clean)).was_open m.0, subst (λ (t : Trees). OnlyMarks t db) (undone.undone m.0).0 m.1))
  ]
