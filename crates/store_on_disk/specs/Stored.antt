-- What a store holds, and what its calls answer.
use Rattle.std.specs.Prelude.{◌≡◌, ◌≢◌, ◌↔◌, ◌⊎◌, ℕ, ◌≤◌, Vec, false, ℤ, pos, List, [], ◌∷◌, ◌++◌}
use Rattle.std.specs.Prelude.{⊤, Option, None, Some, Bool, IsTrue, Result, Ok, Err, OnOk}
use Rattle.std.specs.declared.cmp.Ordering.TheVariants.{Less}
use Rattle.sha2.specs.Sha256.{sha256}
use Rattle.sqlite_disk.specs.Disk.{MoreFaults}
use Rattle.sqlite_value.specs.Order.{Row}
use Rattle.sqlite_value.specs.declared.value.Value.{Value}
use Rattle.sqlite_value.specs.declared.value.Value.TheVariants.{Int}
use Rattle.sqlite_value.specs.Keys.{plain}
use Rattle.sqlite_trees.specs.Tree.{Trees}
use Rattle.sqlite_trees.specs.View.{View, IsClean, HasCause, Tells, doubt}
use Rattle.sqlite_trees.specs.Objects.{catalog_tree}
use Rattle.sqlite_trees.specs.declared.store.Store.{Ghosts}
use Rattle.sqlite_trees.specs.declared.store.Shape.TheVariants as shape
use Rattle.sqlite_trees.specs.declared.error.StoreError.{StoreError}
use Rattle.sqlite_trees.specs.declared.error.StoreError.TheVariants as stored
use Rattle.ipld_tree.specs.Cid.{CidParts, AreCidParts, cid_bytes}
use Rattle.ipld_links.specs.Names.{IsBySha256}
use Rattle.ipld_links.specs.Sound.{IsUnsound}
use Rattle.files_car.specs.Car.{Section}
use Rattle.ipld_links.specs.Sets.{Among}
use Rattle.store_rows.specs.Rows.{block_tree, name_tree, block_row, name_entry, name_cmp, IsStored}
use Rattle.store_rows.specs.Rows.{IsListed, IsKeyed, FreesId, IsTooLong}
use Rattle.store_rows.specs.RootRows.{root_tree, IsRootShape, AreRoots}
use Rattle.store_rows.specs.Ends.{Quiet, KeepsOthers, IsOfBlocks}
use Rattle.std.specs.declared.alloc.Global.{Global}
use Rattle.store_rows.specs.declared.entries.Added.{Added}
use Rattle.store_rows.specs.declared.entries.Added.TheVariants.{New, Stored, NoNumber}
use Rattle.store_rows.specs.declared.entries.Found.{Found}
use Rattle.store_rows.specs.declared.entries.Found.TheVariants.{Nothing, NoRow, Block}
use Rattle.store_on_disk.specs.declared.error.StoreRefusal.{StoreRefusal}
use Rattle.store_on_disk.specs.declared.error.StoreRefusal.TheVariants as refusal

-- each row of the table is a root's
abbrev pub AreAllRoots : List Row → Type 0
AreAllRoots rows = (names : List CidParts) × AreRoots rows names

-- The trees of the blocks and of the names are there, and that of the roots unless the file is of
-- the earlier version. The transaction makes and drops none. No name is listed twice, and each row
-- of the roots is a root's, both as the transaction sees them and as the last commit left them.
pub record IsReady (v : View) : Type 0 where
  pub blocks : v.shape block_tree ≡ shape.Table
  pub names : v.shape name_tree ≡ shape.Index plain
  pub lasting : v.shape ≡ v.committed_shape
  pub listed : IsTrue v.is_open → v.trees catalog_tree ≡ v.committed catalog_tree
  pub unbroken : IsTrue v.is_open → v.is_broken ≡ false
  pub keyed : IsTrue v.is_open → IsKeyed (v.trees name_tree)
  pub committed : IsTrue v.is_open → IsKeyed (v.committed name_tree)
  pub rooted : IsRootShape (v.shape root_tree)
  pub roots : IsTrue v.is_open → AreAllRoots (v.trees root_tree)
  pub last_roots : IsTrue v.is_open → AreAllRoots (v.committed root_tree)

-- a block is stored under its name
abbrev pub Holds : View → CidParts → List ℕ → Type 0
Holds v name b = IsStored v.trees (cid_bytes name) b

-- something is listed under the name, whether a block or not
abbrev pub ListsName : View → CidParts → Type 0
ListsName v name = IsListed (v.trees name_tree) (cid_bytes name)

-- the name comes after the last one, if there is one, in byte order
abbrev pub IsAfter : Option CidParts → List ℕ → Type 0
IsAfter None q = ⊤
IsAfter (Some c) q = name_cmp (cid_bytes c) q ≡ Less

-- the least bytes that come after the last name
abbrev pub bound_after : Option CidParts → List ℕ
bound_after None = []
bound_after (Some c) = cid_bytes c ++ 0 ∷ []

-- the first listed name after the last one
pub record IsNext (entries : List Row) (last : Option CidParts) (c : CidParts) : Type 0 where
  pub valid : AreCidParts c
  pub listed : IsListed entries (cid_bytes c)
  pub following : IsAfter last (cid_bytes c)
  pub first : (q : List ℕ) → IsListed entries q → IsAfter last q
      → (q ≡ cid_bytes c) ⊎ (name_cmp (cid_bytes c) q ≡ Less)

-- the answer is the first name after the last one, or `None` if none is listed there
abbrev pub GivesNextName : View → Option CidParts → Option CidParts → Type 0
GivesNextName v last None = (q : List ℕ) → IsListed (v.trees name_tree) q → IsAfter last q → ⊥
GivesNextName v last (Some c) = IsNext (v.trees name_tree) last c

-- the bytes match the name
abbrev pub IsNamedBy : CidParts → List ℕ → Type 0
IsNamedBy name b = IsBySha256 name × (name.digest ≡ sha256 b)

-- nothing has changed in what the transaction sees, nor in what was committed
pub record IsSame (old new : View) : Type 0 where
  pub trees : new.trees ≡ old.trees
  pub committed : new.committed ≡ old.committed
  pub is_open : new.is_open ≡ old.is_open
  pub broken : new.is_broken ≡ old.is_broken

-- unless a wrong answer of the disk was taken as true, nothing has changed in what the transaction
-- sees, nor in what was committed
abbrev pub StaysSame : {S : Type 0} → Ghosts S → S → S → Type 0
StaysSame g old new = IsClean (g.view new) → IsSame (g.view old) (g.view new)

-- How a call that just reads ends. If it succeeds, then unless a wrong answer of the disk was taken
-- as true, nothing has changed in what the transaction sees, nor in what was committed. Whatever it
-- answers, no fault is forgotten, a crash has no new outcome, and only a fault shuts the store.
pub record JustReads {S T E : Type 0} (g : Ghosts S) (result : Result T E) (old new : S) : Type 0 where
  pub same : OnOk result (StaysSame g old new)
  pub quiet : Quiet g old new

-- unless a wrong answer of the disk was taken as true, it is so in the store, and nothing has
-- changed in what the transaction sees, nor in what was committed
abbrev pub FindsSo : {S : Type 0} → Ghosts S → S → S → (View → Type 0) → Type 0
FindsSo g old new IsSo = IsClean (g.view new) → IsSo (g.view old) × IsSame (g.view old) (g.view new)

-- what was not committed is undone, unless the store is shut
pub record IsUndone (old new : View) : Type 0 where
  pub was_open : IsTrue new.is_open → IsTrue old.is_open
  pub trees : IsTrue new.is_open → new.trees ≡ old.committed
  pub committed : IsTrue new.is_open → new.committed ≡ old.committed

-- ---- refusals

-- the number that the value is, unless it is below 0
abbrev pub number_in : Value → Option ℕ
number_in (Int (pos n)) = Some n
number_in value = None

-- the refusal is of an index entry, or of a row of the roots, that no store writes
abbrev pub IsBadRow : StoreRefusal → Type 0
IsBadRow (refusal.BadEntry number) = ⊤
IsBadRow (refusal.BadRoot number) = ⊤
IsBadRow told = ⊥

-- out of memory and a row that is too long have refusals of their own; a broken tree is refused as
-- such, or by its bad entry or row; any other failure is refused as the disk's
abbrev pub TellsOfStore : StoreError → StoreRefusal → Type 0
TellsOfStore stored.OutOfMemory told = told ≡ refusal.OutOfMemory
TellsOfStore stored.Unstorable told = told ≡ refusal.TooLong
TellsOfStore stored.Broken told = (told ≡ refusal.Disk stored.Broken) ⊎ IsBadRow told
TellsOfStore e told = told ≡ refusal.Disk e

-- The store failed, by the cause that it named, and what was not committed is undone.
pub record FailsByStore {S : Type 0} (g : Ghosts S) (too_long : Type 0) (old new : S)
    (told : StoreRefusal) : Type 0 where
  pub error : StoreError
  pub tells : TellsOfStore error told
  pub blamed : Tells (g.blamed new) error
  pub caused : IsClean (g.view new)
      → HasCause (g.view old) (MoreFaults (g.faults old) (g.faults new)) too_long error
  pub undone : IsClean (g.view new) → IsUndone (g.view old) (g.view new)

-- ---- getting

-- these bytes, and no others, are stored under the name
abbrev pub HoldsOnly : View → CidParts → List ℕ → Type 0
HoldsOnly v name b = Holds v name b × ((d : List ℕ) → Holds v name d → d ≡ b)

-- `None` if nothing is listed under the name, else the bytes that are stored under it
abbrev pub GetsSome : View → CidParts → Option (List ℕ) → Type 0
GetsSome v name None = ListsName v name → ⊥
GetsSome v name (Some b) = HoldsOnly v name b

-- the name is listed, and no bytes that match it are stored under it
abbrev pub IsDamaged : View → CidParts → Type 0
IsDamaged v name = ListsName v name × ((b : List ℕ) → Holds v name b → IsNamedBy name b → ⊥)

-- what is stored under the name is damaged; or the store failed
abbrev pub GetRefused : {S : Type 0} → Ghosts S → CidParts → S → S → StoreRefusal → Type 0
GetRefused g name old new (refusal.Damaged n) =
    (n ≡ name) × FindsSo g old new (λ v. IsDamaged v name)
GetRefused g name old new told = FailsByStore g ⊥ old new told

-- what was found is returned if it matches the name
abbrev pub AnswersVerified : CidParts → Found → Result (Option (Vec ℕ Global)) StoreRefusal
    → Type 0
AnswersVerified name Nothing r = r ≡ Ok None
AnswersVerified name NoRow r = r ≡ Err (refusal.Damaged name)
AnswersVerified name (Block v) r = ((r ≡ Ok (Some v)) × IsNamedBy name v.items)
    ⊎ ((r ≡ Err (refusal.Damaged name)) × (IsNamedBy name v.items → ⊥))

-- a block was refused only because no number is left
abbrev pub IsToldAdded : Added → Result (Unit {0}) StoreRefusal → Type 0
IsToldAdded New r = r ≡ Ok tt
IsToldAdded Stored r = r ≡ Ok tt
IsToldAdded NoNumber r = r ≡ Err refusal.NoNumber

-- ---- committing

-- what the transaction saw is committed
pub record IsCommitted (old new : View) : Type 0 where
  pub was_open : IsTrue old.is_open
  pub trees : new.trees ≡ old.trees
  pub committed : new.committed ≡ old.trees
  pub is_open : IsTrue new.is_open

-- no fault is forgotten, and only a fault shuts the store
pub record IsKeptBy {S : Type 0} (g : Ghosts S) (old new : S) : Type 0 where
  pub shield : g.is_shielded old → g.is_shielded new
  pub clean : doubt (g.view old).is_clean ≤ doubt (g.view new).is_clean
  pub counts : g.faults old ≤ g.faults new
  pub closes : IsClean (g.view new) → IsTrue (g.view old).is_open
      → IsTrue (g.view new).is_open ⊎ MoreFaults (g.faults old) (g.faults new)

-- ---- putting and removing

-- The block is stored under its name, and nothing else; under each other name, what was stored
-- there. The table has the row of the block, and the rows that it had, but for the one to which the
-- name led. If just the block was stored under it, nothing is changed. Each other tree is the same.
pub record IsAddedTo (old new : Trees) (name : CidParts) (b : List ℕ) : Type 0 where
  pub stored : (d : List ℕ) → IsStored new (cid_bytes name) d ↔ (d ≡ b)
  pub others : (q d : List ℕ) → q ≢ cid_bytes name → IsStored new q d ↔ IsStored old q d
  pub lists : (q : List ℕ) → IsListed (new name_tree) q
      ↔ ((q ≡ cid_bytes name) ⊎ IsListed (old name_tree) q)
  pub rows : (id : ℤ) (q d : List ℕ) → Among (block_row id q d) (new block_tree)
      ↔ (((q ≡ cid_bytes name) × (d ≡ b) × Among (name_entry q id) (new name_tree))
      ⊎ (Among (block_row id q d) (old block_tree)
      × ¬ ((q ≡ cid_bytes name) × Among (name_entry q id) (old name_tree))))
  pub same : IsStored old (cid_bytes name) b → new ≡ old
  pub beside : KeepsOthers IsOfBlocks old new

-- the block is stored under its name, all else is as it was, and what was committed is the same
pub record IsAdded (old new : View) (name : CidParts) (b : List ℕ) : Type 0 where
  pub trees : IsAddedTo old.trees new.trees name b
  pub committed : new.committed ≡ old.committed
  pub reals : new.reals ≡ old.reals
  pub was_open : IsTrue old.is_open
  pub was_sound : old.is_broken ≡ false
  pub is_open : IsTrue new.is_open
  pub sound : new.is_broken ≡ false

-- the block is stored under its name, all else is as it was, and all of it is committed
pub record IsPut (old new : View) (name : CidParts) (b : List ℕ) : Type 0 where
  pub trees : IsAddedTo old.trees new.trees name b
  pub committed : new.committed ≡ new.trees
  pub is_open : IsTrue new.is_open

-- Under each other name is stored what was stored there; if the name is not listed, nothing is
-- changed. The index has the entries that it had of the other names, and the table the rows that it
-- had, but for the one to which the name led. Each other tree is the same.
pub record IsTaken (old new : View) (name : CidParts) (taken : Bool) : Type 0 where
  pub was : IsTrue taken ↔ ListsName old name
  pub holds : (q d : List ℕ) → IsStored new.trees q d
      ↔ (IsStored old.trees q d × (q ≢ cid_bytes name))
  pub lists : (q : List ℕ) → IsListed (new.trees name_tree) q
      ↔ (IsListed (old.trees name_tree) q × (q ≢ cid_bytes name))
  pub entries : (id : ℤ) (q : List ℕ) → Among (name_entry q id) (new.trees name_tree)
      ↔ (Among (name_entry q id) (old.trees name_tree) × (q ≢ cid_bytes name))
  pub rows : (id : ℤ) (q d : List ℕ) → Among (block_row id q d) (new.trees block_tree)
      ↔ (Among (block_row id q d) (old.trees block_tree)
      × ¬ ((q ≡ cid_bytes name) × Among (name_entry q id) (old.trees name_tree)))
  pub beside : KeepsOthers IsOfBlocks old.trees new.trees
  pub committed : new.committed ≡ old.committed
  pub was_open : IsTrue old.is_open
  pub is_open : IsTrue new.is_open
  pub broken : new.is_broken ≡ old.is_broken

-- the row of the section would be too long
abbrev pub IsTooLongFor : View → Section → Type 0
IsTooLongFor v s = IsTooLong v.reals (cid_bytes s.0) s.1

-- The bytes are not a block under the name, and nothing is changed; or a row has the greatest
-- number; or the store failed.
abbrev pub PutRefused : {S : Type 0} → Ghosts S → Section → S → S → StoreRefusal → Type 0
PutRefused g s old new (refusal.Unsound e) = IsUnsound s e × (new ≡ old)
PutRefused g s old new refusal.NoNumber =
    FindsSo g old new (λ v. FreesId (v.trees block_tree) None)
PutRefused g s old new told = FailsByStore g (IsTooLongFor (g.view old) s) old new told
