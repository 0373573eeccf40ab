-- What calls of several steps do to the rows.
use Rattle.std.proofs.Common.{◌≡◌, inl, inr, ℕ, ℤ, List, not, sym, ap, ◌∙◌, subst, None, Result, Ok, Err, IfOk, OnOk}
use Rattle.sqlite_trees.proofs.ListLemmas.{all-filter}
use Rattle.sqlite_value.specs.Keys.{plain}
use Rattle.sqlite_trees.specs.Tree.{Trees, has_rowid, remove_entry}
use Rattle.sqlite_trees.specs.View.{View, SetsTree}
use Rattle.ipld_links.specs.Sets.{Among}
use Rattle.store_rows.specs.Rows.{block_tree, name_tree, name_entry, IsFreeId, FindsName, Appends, Renews, AddsBlockRow, TakesOutEntry, TakesOutRow, ClearsRow}
use Rattle.store_rows.specs.declared.entries.Added.{Added}

pub renewed : {E : Type 0} (r : Result Added E) (C : Type 0) (old mid new : Trees) (id : ℤ) (name b : List ℕ) → (C → (mid ≡ old) × Among (name_entry name id) (old name_tree)) → IfOk r (λ added. C → Renews mid new id name b added) → IfOk r (λ added. C → AddsBlockRow old new name b added)
renewed (Ok added) C old mid new id name b at h = λ clean. let k = at clean in inr (id, k.1, subst (λ t. Renews t new id name b added) k.0 (h clean))
renewed (Err e) C old mid new id name b at h = tt

pub appended : {E : Type 0} (r : Result Added E) (C : Type 0) (old mid new : Trees) (name b : List ℕ) → (C → (mid ≡ old) × FindsName (old name_tree) name None) → IfOk r (λ added. C → Appends mid new name b added) → IfOk r (λ added. C → AddsBlockRow old new name b added)
appended (Ok added) C old mid new name b none h = λ clean. let k = none clean in inl (k.1, subst (λ t. Appends t new name b added) k.0 (h clean))
appended (Err e) C old mid new name b none h = tt

pub entry_taken : {X E : Type 0} (r : Result X E) (C : Type 0) (old mid new : View) (id : ℤ) (name : List ℕ) → (C → TakesOutRow old.trees mid.trees id name) → OnOk r (C → SetsTree mid new name_tree (remove_entry plain (name_entry name id))) → OnOk r (C → TakesOutEntry old.trees new.trees id name)
entry_taken (Ok x) C old mid new id name row h = λ clean.
    let k = row clean in
    let s = h clean in
    (ap (λ (v : View). v.trees name_tree) s.is ∙ ap (remove_entry plain (name_entry name id)) k.0, subst (λ rs. ClearsRow (old.trees block_tree) rs id name) (sym (ap (λ (v : View). v.trees block_tree) s.is)) k.1)
entry_taken (Err e) C old mid new id name row h = tt

-- a number that is free in the table is free after an entry and its row are removed
pub free_left : (old mid : Trees) (id fresh : ℤ) (name : List ℕ) → TakesOutEntry old mid id name → IsFreeId (old block_tree) fresh → IsFreeId (mid block_tree) fresh
free_left old mid id fresh name t free = elim t.1 [
  | inl h ↦ subst (λ rs. IsFreeId rs fresh) (sym h.1) (all-filter _ (λ r. not (has_rowid id r)) (old block_tree) free)
  | inr h ↦ subst (λ rs. IsFreeId rs fresh) (sym h.2) free
]
