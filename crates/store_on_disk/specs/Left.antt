-- What a store leaves in its files, which an open relies on.
use Rattle.std.specs.Prelude.{◌≡◌, ℕ, List, [], ◌∷◌, codes, ⊤, IsTrue, false}
use Rattle.sqlite_disk.specs.declared.Disk.{Ghosts}
use Rattle.sqlite_value.specs.declared.value.Value.TheVariants.{Null, Text}
use Rattle.sqlite_value.specs.Order.{Row, column}
use Rattle.sqlite_value.specs.Keys.{plain}
use Rattle.sqlite_trees.specs.View.{View}
use Rattle.sqlite_trees.specs.declared.store.Shape.TheVariants.{Table, Index}
use Rattle.sqlite_wal.specs.Format.{be32}
use Rattle.sqlite_wal.specs.PageSize.{size_in_file}
use Rattle.sqlite_wal.specs.Recovery.{Image, IsIgnored}
use Rattle.sqlite_pages.specs.PageMap.{PageMap}
use Rattle.sqlite_pool.specs.File.{IsSoundFile, in_use}
use Rattle.sqlite_pool.specs.Stored.{Recovers}
use Rattle.sqlite_store.specs.declared.catalog.Wanted.{Wanted}
use Rattle.sqlite_store.specs.Db.{rows_at, IsFile}
use Rattle.sqlite_store.specs.Listing.{file_trees}
use Rattle.sqlite_store.specs.declared.store.open.Unopened.{Unopened}
use Rattle.sqlite_store.specs.Unopened.{state_of, image, wanted_by}
use Rattle.store_rows.specs.Rows.{name_tree, IsKeyed}
use Rattle.store_rows.specs.RootRows.{root_tree}
use Rattle.store_on_disk.specs.Stored.{AreAllRoots}

-- ---- the schema

abbrev pub block_text : List ℕ
block_text = codes "CREATE TABLE block (cid BLOB NOT NULL PRIMARY KEY, bytes BLOB NOT NULL) STRICT"

abbrev pub root_text : List ℕ
root_text = codes "CREATE TABLE root (cid BLOB NOT NULL) STRICT"

abbrev pub table_of : List ℕ → List ℕ → Wanted
table_of name text = record {
  shape = Table;
  reals = 0;
  row = Text (codes "table") ∷ Text name ∷ Text name ∷ Text text ∷ [];
}

abbrev pub index_of_names : Wanted
index_of_names = record {
  shape = Index plain;
  reals = 0;
  row = Text (codes "index") ∷ Text (codes "sqlite_autoindex_block_1") ∷ Text (codes "block")
      ∷ Null ∷ [];
}

-- the table of blocks, the index of their names, and the table of roots
abbrev pub store_objects : List Wanted
store_objects = table_of (codes "block") block_text ∷ index_of_names ∷ table_of (codes "root") root_text ∷ []

-- the same of the earlier version, which keeps no roots
abbrev pub earlier_objects : List Wanted
earlier_objects = table_of (codes "block") block_text ∷ index_of_names ∷ []

-- the row of `sqlite_schema` is that of the object, wherever its tree begins
pub record IsRowOfObject (wanted : Wanted) (row : Row) : Type 0 where
  pub kind : column row 1 ≡ column wanted.row 0
  pub name : column row 2 ≡ column wanted.row 1
  pub table : column row 3 ≡ column wanted.row 2
  pub text : column row 5 ≡ column wanted.row 3

-- the rows are those of these objects, in this order
abbrev pub ListsObjects : List Wanted → List Row → Type 0
ListsObjects [] [] = ⊤
ListsObjects [] (r ∷ rows) = ⊥
ListsObjects (w ∷ wanted) [] = ⊥
ListsObjects (w ∷ wanted) (r ∷ rows) = IsRowOfObject w r × ListsObjects wanted rows

-- ---- the files

-- the page size that the log names or, with no log to replay, the file
abbrev pub NamesSize : Image → ℕ → Type 0
NamesSize image size = (¬ IsIgnored image.log → size ≡ be32 image.log 8)
    × (IsIgnored image.log → size ≡ size_in_file image.db)

-- the pages are a sound database of the schema; each name in its index is a CID, listed once; and
-- each row of the roots is a root's
pub record IsStoreFile (size : ℕ) (pages : PageMap) : Type 0 where
  pub file : IsFile size store_objects pages
  pub keyed : IsKeyed (file_trees size store_objects pages name_tree)
  pub roots : AreAllRoots (file_trees size store_objects pages root_tree)

-- If the header and the list of free pages of what the files recover to are sound, and it lists the
-- schema of a store, then it is the file of a store. So it is with what a store leaves, and with
-- what `sqlite3` makes of that by sound blocks and roots. It also holds if there is no file, or a
-- file of something else.
abbrev pub IsLeft : Image → Type 0
IsLeft image = (size : ℕ) (pages : PageMap) → NamesSize image size → Recovers size image pages
    → ∥ IsSoundFile size pages ∥₁
    → ListsObjects store_objects (rows_at size (in_use size pages) Table 1) → IsStoreFile size pages

-- ---- steps

module _ {D : Type 0} {g : Ghosts D} where
  -- the files recover to those of a store, and are opened as such
  pub record HasStore (it : Unopened D g) : Type 0 where
    pub pages : PageMap
    pub found : Recovers (state_of it).page_size (image it) pages
    pub ours : IsStoreFile (state_of it).page_size pages
    pub schema : wanted_by it ≡ store_objects

  -- the files name this page size, and hold what a store may leave
  pub record HoldsLeft (it : Unopened D g) : Type 0 where
    pub names : NamesSize (image it) (state_of it).page_size
    pub left : IsLeft (image it)

-- the store is open, nothing waits for a commit, and what was committed is a store's
pub record IsFresh (v : View) : Type 0 where
  pub is_open : IsTrue v.is_open
  pub sound : v.is_broken ≡ false
  pub settled : v.trees ≡ v.committed
  pub lasting : v.shape ≡ v.committed_shape
  pub keyed : IsKeyed (v.committed name_tree)
  pub roots : AreAllRoots (v.committed root_tree)
