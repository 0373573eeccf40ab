-- A database that is taken for a store's.
use Rattle.std.proofs.Common.{arith, inl, inr, ◌≡◌, ℕ, List, [], Bool, None, Option, sym, ap, ap₂, ◌∙◌, subst, IsTrue, if◌then◌else◌}
use Rattle.sqlite_disk.specs.declared.Disk.{Ghosts}
use Rattle.sqlite_trees.specs.Tree.{Trees, no_trees}
use Rattle.sqlite_trees.specs.View.{View, IsClean}
use Rattle.sqlite_trees.proofs.Doubt.{clean_of}
use Rattle.sqlite_trees.specs.Objects.{catalog_tree}
use Rattle.sqlite_wal.specs.Recovery.{Image}
use Rattle.sqlite_wal.proofs.RecoveryLemmas.{recovers_once}
use Rattle.sqlite_pages.specs.PageMap.{PageMap}
use Rattle.sqlite_pool.specs.Stored.{Recovers, stored_size, trimmed}
use Rattle.sqlite_store.specs.declared.catalog.Wanted.{Wanted}
use Rattle.sqlite_store.specs.declared.saved.Saved.{Saved}
use Rattle.sqlite_store.specs.declared.store.FileStore.{FileStore}
use Rattle.sqlite_store.specs.declared.store.open.Unopened.{Unopened}
use Rattle.sqlite_store.specs.Saved.{kept_schema}
use Rattle.sqlite_pool.specs.File.{in_use}
use Rattle.sqlite_store.specs.Listing.{listed_from, file_trees, all_shapes}
use Rattle.sqlite_store.specs.Listed.{catalog_rows}
use Rattle.sqlite_store.specs.FileStore.{state, schema_of, view, IsReady}
use Rattle.sqlite_store.specs.Unopened.{state_of, wanted_by, image, Opens}
use Rattle.store_on_disk.specs.Stored as ours
use Rattle.store_rows.specs.Rows.{name_tree, IsKeyed}
use Rattle.store_rows.specs.RootRows.{root_tree}
use Rattle.store_on_disk.specs.Stored.{AreAllRoots}
use Rattle.store_on_disk.specs.Opened.{HasTrees}
use Rattle.store_on_disk.specs.Leaving.{IsStoreSchema, IsStoreList}
use Rattle.store_on_disk.specs.Left.{store_objects, IsLeft, HasStore, IsFresh}

-- ---- what is fresh is a store

pub ready_fresh : (v : View) → HasTrees v → IsFresh v → ours.IsReady v
ready_fresh v has f = record {
  blocks = has.blocks;
  names = has.names;
  lasting = f.lasting;
  listed = λ h. ap (λ (t : Trees). t catalog_tree) f.settled;
  unbroken = λ h. f.sound;
  keyed = λ h. subst (λ (t : Trees). IsKeyed (t name_tree)) (sym f.settled) f.keyed;
  committed = λ h. f.keyed;
  rooted = has.rooted;
  roots = λ h. subst (λ (t : Trees). AreAllRoots (t root_tree)) (sym f.settled) f.roots;
  last_roots = λ h. f.roots;
}

-- ---- what was recovered is fresh

recovers_one : (size : ℕ) (files : Image) (p q : PageMap) → Recovers size files p → Recovers size files q → p ≡ q
recovers_one size files p q a b = sym a.shows ∙ ap (trimmed size) (recovers_once (stored_size size) files a.stored b.stored a.found b.found) ∙ b.shows

shown : (clean : Bool) (size : ℕ) (saved : Option Saved) (schema : List Wanted) (pages : PageMap) → IsTrue clean → saved ≡ None
    → (if clean then file_trees size (kept_schema saved schema) pages else no_trees) ≡ file_trees size schema pages
shown clean size saved schema pages e none = ap₂ (λ (c : Bool) (s : Option Saved). if c then file_trees size (kept_schema s schema) pages else no_trees) e none

module _ {D : Type 0} {g : Ghosts D} (found : Unopened D g) (store : FileStore D g) where
  pub is_fresh : IsReady store → schema_of store ≡ wanted_by found → (IsTrue (state store).is_clean → IsTrue (state_of found).is_clean)
      → (IsTrue (state store).is_clean → Recovers (state_of found).page_size (image found) (state store).committed)
      → (IsTrue (state store).is_clean → Opens found (state store))
      → (IsTrue (state_of found).is_clean → HasStore found)
      → IsClean (view store) → IsFresh (view store)
  is_fresh ready schema honest recovered opens has clean =
      let sure : IsTrue (state store).is_clean = clean_of _ clean in
      let h = has (honest sure) in
      let pages = recovers_one _ _ _ _ h.found (recovered sure) in
      let size = (opens sure).size in
      let what : schema_of store ≡ store_objects = schema ∙ h.schema in
      let is : (view store).committed ≡ file_trees (state_of found).page_size store_objects h.pages =
      shown (state store).is_clean (state store).page_size store.saved (schema_of store) (state store).committed sure ready.unaltered ∙ ap (λ n. file_trees n (schema_of store) (state store).committed) size ∙ ap₂ (λ s p. file_trees (state_of found).page_size s p) what (sym pages) in
      record {
        is_open = ready.is_open clean;
        sound = ready.sound clean;
        settled = ready.clean;
        lasting = ap (λ s. all_shapes (kept_schema s (schema_of store))) (sym ready.unaltered);
        keyed = subst (λ (t : Trees). IsKeyed (t name_tree)) (sym is) h.ours.keyed;
        roots = subst (λ (t : Trees). AreAllRoots (t root_tree)) (sym is) h.ours.roots;
      }

-- a database opened with the schema of a store is listed as one
pub listed_ready : {D : Type 0} {g : Ghosts D} (store : FileStore D g) (wanted : List Wanted) → IsReady store → schema_of store ≡ wanted → IsStoreSchema wanted → IsClean (view store) → IsStoreList ((view store).committed catalog_tree)
listed_ready store wanted ready schema ours clean = subst IsStoreList (sym rows) (by ours)
  where
    rows : (view store).committed catalog_tree ≡ listed_from 0 wanted
    rows = ap (λ (t : Trees). t catalog_tree) (shown (state store).is_clean (state store).page_size store.saved (schema_of store) (state store).committed (clean_of _ clean) ready.unaltered) ∙ catalog_rows (state store).page_size (schema_of store) (in_use (state store).page_size (state store).committed) ∙ ap (listed_from 0) schema

    by : IsStoreSchema wanted → IsStoreList (listed_from 0 wanted)
    by (inl is) = inl (ap (listed_from 0) is)
    by (inr is) = inr (ap (listed_from 0) is)

-- ---- where there is no file

pub nothing_left : IsLeft (record { log = []; db = [] })
nothing_left size pages names found sound lists = absurd (omega (arith, found.present))
