-- What a store leaves, an open may take.
use Rattle.std.proofs.Common.{◌≡◌, ℕ, ◌+◌, ◌*◌, ◌%◌, ◌≤◌, List, [], ◌∷◌, Some, ◌==◌, Bool, true, false, not, ◌&&◌, if◌then◌else◌, true≢false, refl, sym, ap, ◌∙◌, subst, subst₂, add-zero, codes, eqb-true, ne_eqb, inl, inr, arith}
use Rattle.std.proofs.lemmas.Bool.{cases_eq, cases_Bool, and_parts}
use Rattle.std.specs.List.{list_any, list_all}
use Rattle.std.proofs.Math.Logic.{∥∥₁_elim, ∥∥₁_map, ∥∥₁_prop}
use Rattle.std.proofs.Math.Nat.{ℕ_set}
use Rattle.sqlite_disk.specs.declared.Disk.{Ghosts}
use Rattle.sqlite_value.specs.Order.{Row, column}
use Rattle.sqlite_value.proofs.OrderLemmas.{value_cmp-Text}
use Rattle.sqlite_trees.specs.Sound.{is_virtual, begins, same_name}
use Rattle.sqlite_trees.specs.Objects.{catalog_tree}
use Rattle.sqlite_trees.specs.declared.store.Shape.TheVariants.{Table}
use Rattle.sqlite_wal.specs.Format.{be32}
use Rattle.sqlite_wal.specs.Recovery as raw
use Rattle.sqlite_wal.specs.Recovery.{Image, IsIgnored}
use Rattle.sqlite_wal.specs.Files.{seen_image}
use Rattle.sqlite_wal.proofs.RecoveryLemmas as below
use Rattle.sqlite_wal.proofs.LogLemmas.{SeenMayStay}
use Rattle.sqlite_pool.proofs.StateLemmas.{seen_may_be_left}
use Rattle.sqlite_trees.proofs.Doubt.{clean_of}
use Rattle.sqlite_pages.specs.PageMap.{PageMap}
use Rattle.sqlite_pool.specs.File.{IsSoundFile, in_use}
use Rattle.sqlite_pool.specs.Stored.{Recovers, RecoversAs, Adopts, reserved, stored_size}
use Rattle.sqlite_pool.specs.StoredLaws.{recovers_once, carried}
use Rattle.sqlite_pool.specs.declared.pool.Pool.{Pool}
use Rattle.sqlite_pool.specs.Pool as pool
use Rattle.sqlite_pool.proofs.ResealLemmas.{adopts_of}
use Rattle.sqlite_pool.proofs.ProbeLemmas.{size_by_log, size_by_file, reserved_word}
use Rattle.sqlite_store.specs.declared.catalog.Wanted.{Wanted}
use Rattle.sqlite_store.specs.Catalog.{may_stand, describes, is_about, is_near, has_no_pages}
use Rattle.sqlite_store.specs.Db.{rows_at, IsFile}
use Rattle.sqlite_store.specs.Listing.{listed_from}
use Rattle.sqlite_store.specs.Listed.{catalog_rows}
use Rattle.sqlite_store.specs.declared.store.FileStore.{FileStore}
use Rattle.sqlite_store.specs.FileStore.{state, files, schema_in, reading, recovers}
use Rattle.sqlite_store.proofs.FileLemmas.{every_image}
use Rattle.sqlite_store.specs.declared.store.open.Unopened.{Unopened}
use Rattle.sqlite_store.specs.Unopened.{state_of, image, IsAsBefore}
use Rattle.store_rows.specs.Rows.{name_tree, IsKeyed}
use Rattle.store_rows.specs.RootRows.{root_tree}
use Rattle.store_on_disk.specs.Stored.{AreAllRoots}
use Rattle.store_on_disk.specs.Left.{store_objects, earlier_objects, table_of, root_text, IsRowOfObject, ListsObjects, NamesSize, IsStoreFile, IsLeft}
use Rattle.store_on_disk.specs.Leaving.{AreStoreTrees, LeavesStore, WhatIsLeftIsTaken, WhatIsHeldIsTaken, HoldsSound, WhatAnOpenLeavesIsTaken}
use Rattle.store_on_disk.proofs.Objects.{same_trees, file_as, tree_as}

-- ---- the size of the pages

pub page_is_large : {D : Type 0} {g : Ghosts D} (it : Pool D g) → 504 ≤ (pool.state it).page_size
unfolding pool.state
page_is_large it = omega (arith, it.large, it.sized)

module _ (size : ℕ) (image : Image) (pages : PageMap) (found : Recovers size image pages) (large : 504 ≤ size) (sound : IsSoundFile size pages) where
  -- the files name no other size than that of the pages as they are stored
  named_as : (n : ℕ) → NamesSize image n → n ≡ stored_size size
  named_as n names = elim (cases_eq n (stored_size size)) [
    | inl same ↦ same
    | inr other ↦ absurd (
        let read = λ (seen : ¬ IsIgnored image.log). other (names.0 seen ∙ size_by_log size image pages (adopts_of size image pages found) seen) in
        read (λ ignored. other (names.1 ignored ∙ size_by_file size image pages (adopts_of size image pages found) large sound ignored)))
  ]

  same_stored : (n : ℕ) (other : PageMap) (a : Adopts size image pages) (b : Adopts n image other) → stored_size n ≡ stored_size size → b.stored ≡ a.stored
  same_stored n other a b same = below.recovers_once (stored_size size) image b.stored a.stored (subst (λ s. raw.Recovers s image b.stored) same b.found) a.found

  -- for pages with a sound header, only one size agrees on whether they end in sums
  pub size_once : (n : ℕ) (other : PageMap) → NamesSize image n → Recovers n image other → ∥ IsSoundFile n other ∥₁ → n ≡ size
  size_once n other names a there = ∥∥₁_elim there (ℕ_set n size) (by (named_as n names))
    where
      clash : n ≡ stored_size size → (size % 16 == 8) ≡ true → IsSoundFile n other → n ≡ size
      clash is summed ok =
          let rest : size % 16 ≡ 8 = eqb-true (size % 16) 8 summed in
          let more : n ≡ size + 8 = rw summed at is in
          let plain : (n % 16 == 8) ≡ false = ne_eqb (n % 16) 8 (λ e. omega (arith, e, rest, more)) in
          let stored : stored_size n ≡ stored_size size = rw plain (omega (arith, is)) in
          let w = reserved_word size image pages (adopts_of size image pages found) large sound in
          let v = reserved_word n image other (adopts_of n image other a) (omega (arith, more, large)) ok in
          let both : Some v.0 ≡ Some w.0 = sym v.1 ∙ ap (λ (p : PageMap). p 1) (same_stored n other (adopts_of size image pages found) (adopts_of n image other a) stored) ∙ w.1 in
          let one : v.0 ≡ w.0 = cc both in
          let word : reserved n * 0x100_0000 + 0x0040_2020 ≡ reserved size * 0x100_0000 + 0x0040_2020 = sym v.3 ∙ ap (λ b. be32 b 20) one ∙ w.3 in
          let mine : reserved n ≡ 0 = rw plain refl in
          let theirs : reserved size ≡ 8 = rw summed refl in
          absurd (omega (arith, word, mine, theirs))

      by : n ≡ stored_size size → IsSoundFile n other → n ≡ size
      by is ok = elim (cases_Bool (size % 16 == 8)) [
        | inl summed ↦ clash is summed ok
        | inr plain ↦ is ∙ (rw plain (add-zero size))
      ]

-- ---- a file of the earlier version lists no roots

abbrev root_object : Wanted
root_object = table_of (codes "root") root_text

not_described : (t : Row) → IsRowOfObject root_object t → list_any (λ w. describes w t) earlier_objects ≡ false
unfolding describes is_about
not_described t o = rw (o.kind, o.name, value_cmp-Text (codes "table") (codes "table"), value_cmp-Text (codes "root") (codes "block"), value_cmp-Text (codes "table") (codes "index")) refl

has_pages : (t : Row) → IsRowOfObject root_object t → is_virtual (column t 1) (column t 5) ≡ false
unfolding begins same_name
has_pages t o = rw (o.kind, o.text, value_cmp-Text (codes "table") (codes "view"), value_cmp-Text (codes "table") (codes "trigger")) refl

no_row_of_roots : (t : Row) → IsRowOfObject root_object t → may_stand earlier_objects t ≡ true → ⊥
unfolding may_stand has_no_pages
no_row_of_roots t o stands = by (list_any (λ w. describes w t) earlier_objects) (not_described t o) (and_parts _ _ stands).1
  where
    by : (b : Bool) → b ≡ false → (if b then true else has_no_pages t && not (list_any (λ w. is_near w t) earlier_objects)) ≡ true → ⊥
    by true e rest = true≢false e
    by false e rest = true≢false (sym (and_parts _ _ (and_parts _ _ (and_parts _ _ rest).0).0).1 ∙ has_pages t o)

earlier_lacks : (rows : List Row) → ListsObjects store_objects rows → list_all (may_stand earlier_objects) rows ≡ true → ⊥
earlier_lacks [] lists all = lists
earlier_lacks (r ∷ []) lists all = lists.1
earlier_lacks (r ∷ s ∷ []) lists all = lists.1.1
earlier_lacks (r ∷ s ∷ t ∷ []) lists all = no_row_of_roots t lists.1.1.0 (and_parts _ _ (and_parts _ _ (and_parts _ _ all).1).1).0
earlier_lacks (r ∷ s ∷ t ∷ u ∷ rows) lists all = lists.1.1.1

-- ---- the law

module _ {D : Type 0} {g : Ghosts D} (it : FileStore D g) where
  abbrev size : ℕ
  size = (state it).page_size

  lists_schema : (pages : PageMap) → reading it pages catalog_tree ≡ listed_from 0 (schema_in it pages)
  lists_schema pages = catalog_rows size (schema_in it pages) (in_use size pages)

  ours : (pages : PageMap) → IsFile size (schema_in it pages) pages → AreStoreTrees (reading it pages) → ListsObjects store_objects (rows_at size (in_use size pages) Table 1) → IsStoreFile size pages
  ours pages file trees lists = elim trees.listed [
    | inl new ↦
        let same = same_trees 0 (schema_in it pages) store_objects (refl, (refl, (refl, tt))) (sym (lists_schema pages) ∙ new) in record {
          file = file_as size (schema_in it pages) store_objects same pages file;
          keyed = subst IsKeyed (tree_as size (schema_in it pages) store_objects same pages name_tree (omega arith) refl refl) trees.keyed;
          roots = subst AreAllRoots (tree_as size (schema_in it pages) store_objects same pages root_tree (omega arith) refl refl) trees.roots;
        }
    | inr early ↦
        let same = same_trees 0 (schema_in it pages) earlier_objects (refl, (refl, tt)) (sym (lists_schema pages) ∙ early) in
        let known = (file_as size (schema_in it pages) earlier_objects same pages file).db.known in
        absurd (earlier_lacks (rows_at size (in_use size pages) Table 1) lists (and_parts _ _ (and_parts _ _ (and_parts _ _ known).0).0).0)
  ]

  left_by : LeavesStore recovers it → (image : Image) (pages : PageMap) → Recovers size image pages → IsFile size (schema_in it pages) pages → recovers it (reading it pages) → IsLeft image
  left_by leaves image pages found file may n other names a sound lists =
      let same : n ≡ size = size_once size image pages found (page_is_large it.pool) file.sound n other names a sound in
      let one : other ≡ pages = recovers_once size image other pages (subst (λ m. Recovers m image other) same a) found in
      subst₂ IsStoreFile (sym same) (sym one) (ours pages file (leaves (reading it pages) may) (subst₂ (λ m p. ListsObjects store_objects (rows_at m (in_use m p) Table 1)) same one lists))

pub what_is_left_is_taken : {D : Type 0} (g : Ghosts D) → WhatIsLeftIsTaken g
what_is_left_is_taken g it leaves image may = ∥∥₁_elim (every_image it image may) ∥∥₁_prop (λ found. ∥∥₁_map found.2 (λ file. left_by it leaves image found.0 found.1 file found.3))

pub what_is_held_is_taken : {D : Type 0} (g : Ghosts D) → SeenMayStay g → WhatIsHeldIsTaken g
what_is_held_is_taken g stays it leaves clean = what_is_left_is_taken g it leaves (seen_image g (files it).0 (files it).1) (seen_may_be_left it.pool stays (clean_of (state it).is_clean clean))

module _ {D : Type 0} {g : Ghosts D} (it : Unopened D g) (h : HoldsSound it) where
  as_before : (left : Image) → RecoversAs (state_of it).page_size (image it) left → IsSoundFile (state_of it).page_size h.pages → IsLeft left
  as_before left same sound n other names found ok lists =
      let size' = (state_of it).page_size in
      let was = carried size' (image it) left same h.pages h.found in
      let one : n ≡ size' = size_once size' left h.pages was (page_is_large it.pool) sound n other names found ok in
      let pages : other ≡ h.pages = recovers_once size' left other h.pages (subst (λ m. Recovers m left other) one found) was in
      subst₂ IsStoreFile (sym one) (sym pages) (h.left size' h.pages h.names h.found h.sound (subst₂ (λ m p. ListsObjects store_objects (rows_at m (in_use m p) Table 1)) one pages lists))

  left_so : (left : Image) → IsAsBefore it left → ∥ IsLeft left ∥₁
  left_so left kept = elim kept.same [
    | inl before ↦ h.before left before
    | inr same ↦ ∥∥₁_map h.sound (as_before left same)
  ]

pub what_an_open_leaves_is_taken : {D : Type 0} (g : Ghosts D) → WhatAnOpenLeavesIsTaken g
what_an_open_leaves_is_taken g old new opens h left may = left_so old h left (opens.crash left may)
