-- Why a call of several steps failed.
use Rattle.std.proofs.Common.{◌≡◌, ℕ, ℤ, List, ◌≤◌, IsTrue, ap, subst, arith}
use Rattle.sqlite_disk.specs.Disk.{MoreFaults}
use Rattle.sqlite_trees.specs.View.{View, HasCause, OnlyWrites, KeepsSchema, IsStorable, IsStorableRow}
use Rattle.sqlite_exec.specs.Calls.{OnlyReads}
use Rattle.store_rows.specs.Rows.{block_tree, name_tree, block_row, name_entry, IsTooLong}
use Rattle.store_rows.specs.RootRows.{IsRootTooLong}
use Rattle.sqlite_trees.specs.declared.error.StoreError.{StoreError}
use Rattle.sqlite_trees.specs.declared.error.StoreError.TheVariants.{OutOfMemory, Io, Corrupt, Full, Broken, Unstorable}

-- a later step failed, after steps that left the transaction as sound as it was
pub cause_then : (old mid : View) (a b c : ℕ) (U V : Type 0) (e : StoreError) → a ≤ b → mid.is_broken ≡ old.is_broken → (U → V) → HasCause mid (MoreFaults b c) U e → HasCause old (MoreFaults a c) V e
cause_then old mid a b c U V OutOfMemory up same f h = tt
cause_then old mid a b c U V Io up same f h = omega arith
cause_then old mid a b c U V Corrupt up same f h = omega arith
cause_then old mid a b c U V Full up same f h = omega arith
cause_then old mid a b c U V Broken up same f h = subst IsTrue same h
cause_then old mid a b c U V Unstorable up same f h = f h

pub row_too_long : (reals : ℕ → ℕ) (name b : List ℕ) (id : ℤ) → (IsStorableRow (reals block_tree) (block_row id name b) → ⊥) → IsTooLong reals name b
row_too_long reals name b id none all = none (all id).0

pub entry_too_long : (reals : ℕ → ℕ) (name b : List ℕ) (id : ℤ) → (IsStorable (reals name_tree) (name_entry name id) → ⊥) → IsTooLong reals name b
entry_too_long reals name b id none all = none (all id).1

pub only_reads : (old new : View) → OnlyReads old new → (new.is_broken ≡ old.is_broken) × (new.trees ≡ old.trees)
only_reads old new h = (ap (λ (v : View). v.is_broken) h, ap (λ (v : View). v.trees) h)

pub only_writes : (old new : View) → OnlyWrites old new → new.is_broken ≡ old.is_broken
only_writes old new h = ap (λ (v : View). v.is_broken) h

pub too_long_as : (name b : List ℕ) (old mid : View) → KeepsSchema old mid → IsTooLong mid.reals name b → IsTooLong old.reals name b
too_long_as name b old mid same h = subst (λ r. IsTooLong r name b) same.reals h

pub root_too_long_as : (name : List ℕ) (old mid : View) → KeepsSchema old mid → IsRootTooLong mid.reals name → IsRootTooLong old.reals name
root_too_long_as name old mid same h = subst (λ r. IsRootTooLong r name) same.reals h
