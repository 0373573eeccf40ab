-- What a call leaves of a store, whatever it answers.
use Rattle.std.specs.Prelude.{◌≡◌, ◌⊎◌, ℕ, false, Result, IfErr, OnOk, OnErr}
use Rattle.sqlite_disk.specs.Disk.{MoreFaults}
use Rattle.sqlite_value.specs.Keys.{plain}
use Rattle.sqlite_trees.specs.Tree.{Trees}
use Rattle.sqlite_trees.specs.View.{View, IsClean, KeepsSchema, KeepsCommitted, HasCause, IsQuiet, OnlyWrites, Tells}
use Rattle.sqlite_trees.specs.declared.store.Store.{Ghosts}
use Rattle.sqlite_trees.specs.declared.store.Shape.TheVariants as shape
use Rattle.sqlite_trees.specs.declared.error.StoreError.{StoreError}
use Rattle.store_rows.specs.Rows.{block_tree, name_tree}
use Rattle.store_rows.specs.RootRows.{root_tree, IsRootShape}

-- no fault is forgotten, a crash has no new outcome, and only a fault shuts the store
abbrev pub Quiet : {S : Type 0} → Ghosts S → S → S → Type 0
Quiet g old new = IsQuiet g.view g.faults g.recovers g.is_shielded old new

-- How a call on rows ends. If it succeeds, it changes no more than this; a row is refused only if
-- it is too long.
pub record EndsOnRows {S T : Type 0} (g : Ghosts S) (Changes : View → View → Type 0) (IsLong : Type 0) (result : Result T StoreError) (old new : S) : Type 0 where
  pub frame : OnOk result (IsClean (g.view new) → Changes (g.view old) (g.view new))
  pub sound : OnOk result (IsClean (g.view new) → (g.view old).is_broken ≡ false)
  pub told : IfErr result (Tells (g.blamed new))
  pub err : IsClean (g.view new) → OnErr result (KeepsCommitted (g.view old) (g.view new))
  pub cause : IsClean (g.view new) → IfErr result (HasCause (g.view old) (MoreFaults (g.faults old) (g.faults new)) IsLong)
  pub schema : KeepsSchema (g.view old) (g.view new)
  pub quiet : Quiet g old new

-- each other tree than these is the same
abbrev pub KeepsOthers : (ℕ → Type 0) → Trees → Trees → Type 0
KeepsOthers These old new = (t : ℕ) → ¬ These t → new t ≡ old t

-- only rows of these trees are written
pub record WritesIn (These : ℕ → Type 0) (old new : View) : Type 0 where
  pub frame : OnlyWrites old new
  pub others : KeepsOthers These old.trees new.trees

-- the table of blocks, and the index of their names
abbrev pub IsOfBlocks : ℕ → Type 0
IsOfBlocks t = (t ≡ block_tree) ⊎ (t ≡ name_tree)

-- the table of roots
abbrev pub IsOfRoots : ℕ → Type 0
IsOfRoots t = t ≡ root_tree

-- the index of names is there
abbrev pub HasNames : {S : Type 0} → Ghosts S → S → Type 0
HasNames g s = IsClean (g.view s) → (g.view s).shape name_tree ≡ shape.Index plain

-- this table is there
abbrev pub HasTable : {S : Type 0} → Ghosts S → ℕ → S → Type 0
HasTable g t s = IsClean (g.view s) → (g.view s).shape t ≡ shape.Table

-- the table of blocks is there
abbrev pub HasBlocks : {S : Type 0} → Ghosts S → S → Type 0
HasBlocks g s = HasTable g block_tree s

-- the table of roots is there, or that tree is absent
abbrev pub MayHaveRoots : {S : Type 0} → Ghosts S → S → Type 0
MayHaveRoots g s = IsClean (g.view s) → IsRootShape ((g.view s).shape root_tree)
