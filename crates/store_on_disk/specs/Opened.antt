-- What an open finds.
use Rattle.std.specs.Prelude.{◌≡◌, ◌⊎◌, false, IsTrue}
use Rattle.sqlite_disk.specs.declared.Disk as disk
use Rattle.sqlite_store.specs.declared.store.FileStore.{FileStore}
use Rattle.sqlite_store.specs.FileStore.{view, log_frames}
use Rattle.sqlite_value.specs.Keys.{plain}
use Rattle.sqlite_trees.specs.Tree.{Trees}
use Rattle.sqlite_trees.specs.View.{View}
use Rattle.sqlite_trees.specs.Objects.{version_tree, version_rows}
use Rattle.sqlite_trees.specs.declared.store.Shape.TheVariants as shape
use Rattle.sqlite_trees.specs.declared.error.StoreError.TheVariants as stored
use Rattle.sqlite_store.specs.declared.error.OpenError.{OpenError}
use Rattle.sqlite_store.specs.declared.error.OpenError.TheVariants as opening
use Rattle.store_on_disk.specs.declared.error.StoreRefusal.{StoreRefusal}
use Rattle.store_on_disk.specs.declared.error.StoreRefusal.TheVariants as refusal
use Rattle.store_rows.specs.Rows.{block_tree, name_tree, IsKeyed}
use Rattle.store_rows.specs.RootRows.{root_tree, IsRootShape}
use Rattle.store_rows.specs.Ends.{KeepsOthers}
use Rattle.store_on_disk.specs.Stored.{AreAllRoots}

-- the trees of the blocks and of the names are there, and that of the roots unless the file is of
-- the earlier version
pub record HasTrees (v : View) : Type 0 where
  pub blocks : v.shape block_tree ≡ shape.Table
  pub names : v.shape name_tree ≡ shape.Index plain
  pub rooted : IsRootShape (v.shape root_tree)

-- The blocks, the roots and each other tree are the same; so is the version, unless it was 0, as in
-- a database that was just made.
pub record OnlyMarks (old new : Trees) : Type 0 where
  pub others : KeepsOthers (λ t. t ≡ version_tree) old new
  pub version : (new version_tree ≡ old version_tree) ⊎ (old version_tree ≡ version_rows 0)

-- the database holds blocks and roots, and they are the same, as the transaction sees them and as
-- they are committed
pub record IsChecked (old new : View) : Type 0 where
  pub blocks : new.shape block_tree ≡ shape.Table
  pub names : new.shape name_tree ≡ shape.Index plain
  pub was_sound : old.is_broken ≡ false
  pub sound : new.is_broken ≡ false
  pub keyed : IsKeyed (new.trees name_tree)
  pub rooted : IsRootShape (new.shape root_tree)
  pub roots : AreAllRoots (new.trees root_tree)
  pub same : OnlyMarks old.trees new.trees
  pub settled : old.trees ≡ old.committed → new.trees ≡ new.committed
  pub lasting : old.shape ≡ old.committed_shape → new.shape ≡ new.committed_shape

-- the blocks and the roots that were committed are stored, and nothing waits for a commit
pub record IsOpened (old new : View) : Type 0 where
  pub is_open : IsTrue new.is_open
  pub now : OnlyMarks old.committed new.trees
  pub committed : new.committed ≡ new.trees

-- the store is open, and all that it holds is committed
pub record IsSettled (v : View) : Type 0 where
  pub is_open : IsTrue v.is_open
  pub committed : v.committed ≡ v.trees

module _ {D : Type 0} {g : disk.Ghosts D} where
  -- what was committed is in the file, nothing waits for a commit, and the log is empty
  pub record IsMoved (old new : FileStore D g) : Type 0 where
    pub is_open : IsTrue (view new).is_open
    pub trees : (view new).trees ≡ (view old).committed
    pub committed : (view new).committed ≡ (view old).committed
    pub log : log_frames new ≡ 0

-- by which refusal each failure of an open is returned
abbrev pub TellsOfOpening : OpenError → StoreRefusal → Type 0
TellsOfOpening opening.OutOfMemory told = told ≡ refusal.OutOfMemory
TellsOfOpening opening.Io told = told ≡ refusal.Disk stored.Io
TellsOfOpening opening.Full told = told ≡ refusal.Disk stored.Full
TellsOfOpening opening.Refused told = told ≡ refusal.NotAStore
