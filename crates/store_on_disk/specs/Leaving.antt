-- What a store leaves in its files, whenever a crash cuts it off.
use Rattle.std.specs.Prelude.{◌≡◌, ◌⊎◌, List, IsTrue}
use Rattle.sqlite_disk.specs.declared.Disk as disk
use Rattle.sqlite_value.specs.Order.{Row}
use Rattle.sqlite_trees.specs.Tree.{Trees}
use Rattle.sqlite_trees.specs.View.{IsClean}
use Rattle.sqlite_trees.specs.Objects.{catalog_tree}
use Rattle.sqlite_trees.specs.declared.store.Store.{Ghosts}
use Rattle.sqlite_wal.specs.Recovery.{Image}
use Rattle.sqlite_wal.specs.Files.{seen_image}
use Rattle.sqlite_pages.specs.PageMap.{PageMap}
use Rattle.sqlite_pool.specs.File.{IsSoundFile}
use Rattle.sqlite_pool.specs.Stored.{Recovers}
use Rattle.sqlite_store.specs.declared.store.open.Unopened.{Unopened}
use Rattle.sqlite_store.specs.Unopened.{state_of, image, Opens}
use Rattle.sqlite_store.specs.declared.catalog.Wanted.{Wanted}
use Rattle.sqlite_store.specs.Listing.{listed_from}
use Rattle.sqlite_store.specs.declared.store.FileStore.{FileStore}
use Rattle.sqlite_store.specs.FileStore.{state, view, files, recovers}
use Rattle.store_rows.specs.Rows.{name_tree, IsKeyed}
use Rattle.store_rows.specs.RootRows.{root_tree}
use Rattle.store_on_disk.specs.Stored.{AreAllRoots}
use Rattle.store_on_disk.specs.Opened.{OnlyMarks}
use Rattle.store_on_disk.specs.Left.{NamesSize, store_objects, earlier_objects, IsLeft}

-- the schema is that of a store, or of one of the earlier version
abbrev pub IsStoreSchema : List Wanted → Type 0
IsStoreSchema schema = (schema ≡ store_objects) ⊎ (schema ≡ earlier_objects)

-- the trees are listed as those of such a schema
abbrev pub IsStoreList : List Row → Type 0
IsStoreList rows = (rows ≡ listed_from 0 store_objects) ⊎ (rows ≡ listed_from 0 earlier_objects)

-- a store's trees: each listed name is a CID, listed once, and each row of the roots is a root's
pub record AreStoreTrees (db : Trees) : Type 0 where
  pub listed : IsStoreList (db catalog_tree)
  pub keyed : IsKeyed (db name_tree)
  pub roots : AreAllRoots (db root_tree)

-- after a crash at this moment, an open finds a store's trees
abbrev pub LeavesStore : {S : Type 0} → (S → Trees → Type 0) → S → Type 0
LeavesStore recovers it = (db : Trees) → recovers it db → AreStoreTrees db

-- so it is after the call, if it was so before
abbrev pub StillLeavesStore : {S : Type 0} → Ghosts S → S → S → Type 0
StillLeavesStore g old new = IsClean (g.view new) → LeavesStore g.recovers old → LeavesStore g.recovers new

-- the opened database leaves a store, if what was committed was listed as one
abbrev pub LeavesAsListed : {S : Type 0} → Ghosts S → S → S → Type 0
LeavesAsListed g old new = IsClean (g.view new)
    → (IsClean (g.view old) → IsStoreList ((g.view old).committed catalog_tree)) → LeavesStore g.recovers new

-- After a crash an open finds what it would have found before the call, or what was committed, with
-- the version set.
abbrev pub IsSpared : {S : Type 0} → Ghosts S → S → S → Type 0
IsSpared g old new = (db : Trees) → g.recovers new db → g.recovers old db
    ⊎ (IsClean (g.view new) → IsTrue (g.view old).is_open × OnlyMarks (g.view old).committed db)

-- ---- images

-- Each image of the two files that a crash may leave is one that an open may take.
abbrev pub WhatIsLeftIsTaken : {D : Type 0} → disk.Ghosts D → Type 0
WhatIsLeftIsTaken {D} g = (it : FileStore D g) → LeavesStore recovers it
    → (image : Image) → (state it).may_leave image → ∥ IsLeft image ∥₁

-- So is the image that the two files hold, as if the process ends.
abbrev pub WhatIsHeldIsTaken : {D : Type 0} → disk.Ghosts D → Type 0
WhatIsHeldIsTaken {D} g = (it : FileStore D g) → LeavesStore recovers it
    → IsClean (view it) → ∥ IsLeft (seen_image g (files it).0 (files it).1) ∥₁

-- the files name this page size, hold what a store may leave, and recover to pages with a sound
-- header; so does whatever a crash may leave of them
pub record HoldsSound {D : Type 0} {g : disk.Ghosts D} (it : Unopened D g) : Type 0 where
  pub names : NamesSize (image it) (state_of it).page_size
  pub left : IsLeft (image it)
  pub pages : PageMap
  pub found : Recovers (state_of it).page_size (image it) pages
  pub sound : ∥ IsSoundFile (state_of it).page_size pages ∥₁
  pub before : (left : Image) → (state_of it).may_leave left → ∥ IsLeft left ∥₁

-- An open of such files, however far it gets, leaves what an open may take.
abbrev pub WhatAnOpenLeavesIsTaken : {D : Type 0} → disk.Ghosts D → Type 0
WhatAnOpenLeavesIsTaken {D} g = (old new : Unopened D g) → Opens old (state_of new) → HoldsSound old
    → (left : Image) → (state_of new).may_leave left → ∥ IsLeft left ∥₁
