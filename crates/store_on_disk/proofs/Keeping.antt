-- What a store holds after a step, and that it stays ready.
use Rattle.std.proofs.Common.{◌≡◌, inl, inr, ℕ, ℤ, List, [], ◌∷◌, filter, Bool, true, false, not, Ordering, Less, Equal, Greater, is_eq, refl, sym, ap, ◌∙◌, subst, true≢false, IsTrue, arith, ◌⊎◌, ◌↔◌, Option, None, Some, is_some, Ok, Err}
use Rattle.std.specs.Ordering.{match_ordering}
use Rattle.sqlite_value.specs.declared.value.Value.TheVariants.{Int, Blob}
use Rattle.sqlite_value.specs.Order.{Row, column, value_cmp}
use Rattle.sqlite_value.specs.Keys.{plain, entry_cmp}
use Rattle.sqlite_value.proofs.KeyLemmas.{first_key-plain, then_tied, entry_cmp_total}
use Rattle.sqlite_value.proofs.OrderLemmas.{value_cmp-Blob}
use Rattle.std.proofs.lemmas.Cmp.{tied_itself}
use Rattle.std.proofs.lemmas.Map.Lookups.{exact_bytes}
use Rattle.sqlite_trees.proofs.ListLemmas.{all-filter}
use Rattle.store_rows.proofs.Finding.{all_among}
use Rattle.sqlite_trees.specs.Tree.{Trees, rowid, has_rowid, put_row, insert_entry, remove_entry}
use Rattle.sqlite_trees.specs.View.{View, IsClean, KeepsCommitted, IsRolledBack}
use Rattle.sqlite_trees.specs.Objects.{catalog_tree}
use Rattle.sqlite_trees.specs.declared.store.Store.{Ghosts}
use Rattle.sqlite_trees.specs.declared.store.Shape.{Shape}
use Rattle.sqlite_trees.specs.declared.error.StoreError.{StoreError}
use Rattle.sqlite_exec.specs.Calls.{OnlyReads}
use Rattle.store_rows.specs.Ends.{Quiet, EndsOnRows}
use Rattle.ipld_tree.specs.Cid.{IsCid}
use Rattle.ipld_links.specs.Sets.{Among}
use Rattle.store_rows.specs.Rows.{block_tree, name_tree, block_row, name_entry, IsStored, IsListed, IsNameEntry, AreNameEntries, FindsName, IsFreeId, IsRowOf, ClearsRow, IsKeyed}
use Rattle.store_rows.specs.RootRows.{root_tree, IsRootShape}
use Rattle.store_rows.proofs.Numbers.{among_filter, among_unfiltered, has_own, number_is}
use Rattle.store_on_disk.specs.Stored.{AreAllRoots, IsReady, IsSame, IsUndone}

-- ---- reads

pub ready_read : (old new : View) → OnlyReads old new → IsReady old → IsReady new
ready_read old new h r = subst IsReady (sym h) (record { blocks = r.blocks; names = r.names; lasting = r.lasting; listed = r.listed; unbroken = r.unbroken; keyed = r.keyed; committed = r.committed; rooted = r.rooted; roots = r.roots; last_roots = r.last_roots })

pub same_read : (old new : View) → OnlyReads old new → IsSame old new
same_read old new h = record { trees = ap (λ (v : View). v.trees) h; committed = ap (λ (v : View). v.committed) h; is_open = ap (λ (v : View). v.is_open) h; broken = ap (λ (v : View). v.is_broken) h }

-- ---- failures

pub ready_undone : (old mid new : View) → IsClean new → KeepsCommitted old mid → IsRolledBack mid new → IsReady old → IsReady new
ready_undone old mid new clean kept undone r =
    let back = undone.kept clean in
    let was : mid.shape ≡ mid.committed_shape = kept.shape ∙ r.lasting ∙ sym kept.committed_shape in
    let shape : new.shape ≡ old.shape = undone.shape was ∙ kept.shape in
    let committed = λ (h : IsTrue new.is_open). back.committed h ∙ kept.committed (back.was_open h) in
    let trees = λ (h : IsTrue new.is_open). (undone.undone h).0 ∙ kept.committed (back.was_open h) in
    let opened = λ (h : IsTrue new.is_open). kept.was_open (back.was_open h) in
    record {
      blocks = ap (λ f. f block_tree) shape ∙ r.blocks;
      names = ap (λ f. f name_tree) shape ∙ r.names;
      lasting = shape ∙ r.lasting ∙ sym (undone.committed_shape ∙ kept.committed_shape);
      listed = λ h. ap (λ (t : Trees). t catalog_tree) (trees h ∙ sym (committed h));
      unbroken = λ h. (undone.undone h).1;
      keyed = λ h. subst (λ (t : Trees). IsKeyed (t name_tree)) (sym (trees h)) (r.committed (opened h));
      committed = λ h. subst (λ (t : Trees). IsKeyed (t name_tree)) (sym (committed h)) (r.committed (opened h));
      rooted = subst (λ (f : ℕ → Shape). IsRootShape (f root_tree)) (sym shape) r.rooted;
      roots = λ h. subst (λ (t : Trees). AreAllRoots (t root_tree)) (sym (trees h)) (r.last_roots (opened h));
      last_roots = λ h. subst (λ (t : Trees). AreAllRoots (t root_tree)) (sym (committed h)) (r.last_roots (opened h));
    }

pub undone_since : (old mid new : View) → IsClean new → KeepsCommitted old mid → IsRolledBack mid new → IsUndone old new
undone_since old mid new clean kept undone = let back = undone.kept clean in record {
  was_open = λ h. kept.was_open (back.was_open h);
  trees = λ h. (undone.undone h).0 ∙ kept.committed (back.was_open h);
  committed = λ h. back.committed h ∙ kept.committed (back.was_open h);
}

-- a store that is not broken is open
pub open_of : (v : View) → (v.is_open ≡ false → IsTrue v.is_broken) → v.is_broken ≡ false → IsTrue v.is_open
open_of v shut sound = by v.is_open refl
  where
    by : (b : Bool) → v.is_open ≡ b → IsTrue b
    by true e = refl
    by false e = absurd (true≢false (sym (shut e) ∙ sound))

-- ---- what calls on rows leave

-- a store is ready, if no wrong answer of the disk was taken as true
abbrev pub Ready : {S : Type 0} → Ghosts S → S → Type 0
Ready g s = IsClean (g.view s) → IsReady (g.view s)

module _ {S T : Type 0} (g : Ghosts S) (old new : S) where
  -- a call that only read leaves a store ready
  pub ready_ended : {x : T} → Ready g old → EndsOnRows g OnlyReads ⊥ (Ok x) old new → Ready g new
  ready_ended {x} was e clean = ready_read _ _ (e.frame clean) (was (omega (arith, e.quiet.clean)))

  -- a call that failed, and was undone, does so too
  pub ready_failed : {C : View → View → Type 0} {F : Type 0} {e : StoreError} (mid : S) → Ready g old → EndsOnRows {T = T} g C F (Err e) old mid → IsRolledBack (g.view mid) (g.view new) → Quiet g mid new → Ready g new
  ready_failed {C} {F} {e} mid was ends undone quiet clean =
      let clean_then : IsClean (g.view mid) = omega (arith, quiet.clean) in
      ready_undone _ _ _ clean (ends.err clean_then) undone (was (omega (arith, ends.quiet.clean)))

  -- if a call succeeded, the store was open and no name was listed twice
  pub keyed_ended : {C : View → View → Type 0} {F : Type 0} {x : T} → ((g.view old).is_open ≡ false → IsTrue (g.view old).is_broken) → Ready g old → EndsOnRows g C F (Ok x) old new → IsClean (g.view new)
      → IsTrue (g.view old).is_open × IsKeyed ((g.view old).trees name_tree)
  keyed_ended {C} {F} {x} shut was e clean =
      let is_open = open_of (g.view old) shut (e.sound clean) in
      (is_open, (was (omega (arith, e.quiet.clean))).keyed is_open)

-- ---- finding

pub found_listed : (es : List Row) (name : List ℕ) (o : Option ℤ) → AreNameEntries es → FindsName es name o → IsTrue (is_some o) ↔ IsListed es name
found_listed es name None are f = (λ t. absurd (true≢false (sym t)), λ l. absurd (f are l))
found_listed es name (Some id) are f = (λ t. (id, f), λ l. refl)

-- ---- getting

pub stored_found : (trees : Trees) (name b : List ℕ) (id : ℤ) → Among (name_entry name id) (trees name_tree) → filter (has_rowid id) (trees block_tree) ≡ block_row id name b ∷ [] → IsStored trees name b
stored_found trees name b id listed row = record { id = id; listed = listed; row = (among_unfiltered (has_rowid id) (block_row id name b) (trees block_tree) (subst (Among (block_row id name b)) (sym row) (inl refl))).0 }

-- the bytes under a name are those in the row that was found
pub stored_there : (trees : Trees) (name b : List ℕ) (id : ℤ) → IsKeyed (trees name_tree) → Among (name_entry name id) (trees name_tree) → IsStored trees name b → Among (block_row id name b) (filter (has_rowid id) (trees block_tree))
stored_there trees name b id keyed listed s =
    let same : s.id ≡ id = keyed.1 name s.id id s.listed listed in
    among_filter (has_rowid id) (block_row id name b) (trees block_tree) (has_own id (block_row id name b) refl) (subst (λ n. Among (block_row n name b) (trees block_tree)) same s.row)

same_bytes : (id : ℤ) (name b d : List ℕ) → block_row id name b ≡ block_row id name d → b ≡ d
same_bytes id name b d e = cc e

pub stored_as_found : (trees : Trees) (name b d : List ℕ) (id : ℤ) → IsKeyed (trees name_tree) → Among (name_entry name id) (trees name_tree) → filter (has_rowid id) (trees block_tree) ≡ block_row id name d ∷ [] → IsStored trees name b → b ≡ d
stored_as_found trees name b d id keyed listed row s =
    elim (subst (Among (block_row id name b)) row (stored_there trees name b id keyed listed s)) [ inl same ↦ same_bytes id name b d same | inr none ↦ absurd none ]

-- ---- adding

among_inserted : (name : List ℕ) (id : ℤ) (es : List Row) (x : Row) → ((e : Row) → Among e es → entry_cmp plain e (name_entry name id) ≡ Equal → ⊥)
    → Among x (insert_entry plain (name_entry name id) es) ↔ ((x ≡ name_entry name id) ⊎ Among x es)
among_inserted name id [] x apart = (λ h. elim h [ inl same ↦ inl same | inr none ↦ absurd none ], λ h. elim h [ inl same ↦ inl same | inr none ↦ absurd none ])
among_inserted name id (e ∷ es) x apart = by (entry_cmp plain e (name_entry name id)) refl (among_inserted name id es x (λ f there. apart f (inr there)))
  where
    new : Row
    new = name_entry name id

    by : (o : Ordering) → entry_cmp plain e new ≡ o → (Among x (insert_entry plain new es) ↔ ((x ≡ new) ⊎ Among x es))
        → (Among x (match_ordering o (e ∷ insert_entry plain new es) (e ∷ es) (new ∷ e ∷ es)) ↔ ((x ≡ new) ⊎ Among x (e ∷ es)))
    by Less t more = (
      λ h. elim h [ inl same ↦ inr (inl same) | inr later ↦ elim (more.0 later) [ inl is ↦ inl is | inr there ↦ inr (inr there) ] ],
      λ h. elim h [ inl is ↦ inr (more.1 (inl is)) | inr there ↦ elim there [ inl same ↦ inl same | inr later ↦ inr (more.1 (inr later)) ] ],
    )
    by Equal t more = absurd (apart e (inl refl) t)
    by Greater t more = (
      λ h. elim h [ inl is ↦ inl is | inr there ↦ inr there ],
      λ h. elim h [ inl is ↦ inl is | inr there ↦ inr there ],
    )

among_put : (new : Row) (id : ℤ) (rs : List Row) (x : Row) → rowid new ≡ Int id → IsFreeId rs id → Among x (put_row new rs) ↔ ((x ≡ new) ⊎ Among x rs)
among_put new id [] x is free = (λ h. elim h [ inl same ↦ inl same | inr none ↦ absurd none ], λ h. elim h [ inl same ↦ inl same | inr none ↦ absurd none ])
among_put new id (r ∷ rs) x is free = by (value_cmp (rowid r) (rowid new)) refl (among_put new id rs x is free.1)
  where
    by : (o : Ordering) → value_cmp (rowid r) (rowid new) ≡ o → (Among x (put_row new rs) ↔ ((x ≡ new) ⊎ Among x rs))
        → (Among x (match_ordering o (r ∷ put_row new rs) (new ∷ rs) (new ∷ r ∷ rs)) ↔ ((x ≡ new) ⊎ Among x (r ∷ rs)))
    by Less t more = (
      λ h. elim h [ inl same ↦ inr (inl same) | inr later ↦ elim (more.0 later) [ inl at ↦ inl at | inr there ↦ inr (inr there) ] ],
      λ h. elim h [ inl at ↦ inr (more.1 (inl at)) | inr there ↦ elim there [ inl same ↦ inl same | inr later ↦ inr (more.1 (inr later)) ] ],
    )
    by Equal t more = absurd (true≢false (ap is_eq (sym t) ∙ ap (λ v. is_eq (value_cmp (rowid r) v)) is ∙ free.0))
    by Greater t more = (
      λ h. elim h [ inl at ↦ inl at | inr there ↦ inr there ],
      λ h. elim h [ inl at ↦ inl at | inr there ↦ inr there ],
    )

-- no entry has the name that is added
apart_from : (name : List ℕ) (id : ℤ) (es : List Row) → AreNameEntries es → (IsListed es name → ⊥) → (e : Row) → Among e es → entry_cmp plain e (name_entry name id) ≡ Equal → ⊥
apart_from name id es are none e there tied =
    let a = all_among IsNameEntry e es are there in
    let same : a.0 ≡ name = exact_bytes a.0 name (sym (value_cmp-Blob a.0 name) ∙ (then_tied (value_cmp (Blob a.0) (Blob name)) _ (rw first_key-plain at (subst (λ x. entry_cmp plain x (name_entry name id) ≡ Equal) a.2 tied))).0) in
    none (a.1, subst (λ x. Among x es) (a.2 ∙ ap (λ n. name_entry n a.1) same) there)

same_entry : (m n : List ℕ) (i j : ℤ) → name_entry m i ≡ name_entry n j → (m ≡ n) × (i ≡ j)
same_entry m n i j e = (cc e, cc e)

same_row : (m n b d : List ℕ) (i j : ℤ) → block_row i m b ≡ block_row j n d → (m ≡ n) × (b ≡ d) × (i ≡ j)
same_row m n b d i j e = (cc e, cc e, cc e)

module _ (old new : Trees) (name b : List ℕ) (id : ℤ) (keyed : IsKeyed (old name_tree)) (none : IsListed (old name_tree) name → ⊥) (free : IsFreeId (old block_tree) id)
    (rows : new block_tree ≡ put_row (block_row id name b) (old block_tree)) (entries : new name_tree ≡ insert_entry plain (name_entry name id) (old name_tree)) where
  inserted : (x : Row) → Among x (new name_tree) ↔ ((x ≡ name_entry name id) ⊎ Among x (old name_tree))
  inserted x = subst (λ es. Among x es ↔ ((x ≡ name_entry name id) ⊎ Among x (old name_tree))) (sym entries) (among_inserted name id (old name_tree) x (apart_from name id (old name_tree) keyed.0 none))

  put : (x : Row) → Among x (new block_tree) ↔ ((x ≡ block_row id name b) ⊎ Among x (old block_tree))
  put x = subst (λ rs. Among x rs ↔ ((x ≡ block_row id name b) ⊎ Among x (old block_tree))) (sym rows) (among_put (block_row id name b) id (old block_tree) x refl free)

  -- a row of the table does not have the number
  not_free : (q d : List ℕ) → Among (block_row id q d) (old block_tree) → ⊥
  not_free q d there = true≢false (sym (has_own id (block_row id q d) refl) ∙ all_among (λ r. has_rowid id r ≡ false) (block_row id q d) (old block_tree) free there)

  pub stored_since : (q d : List ℕ) → IsStored new q d ↔ (((q ≡ name) × (d ≡ b)) ⊎ IsStored old q d)
  stored_since q d = (there, back)
    where
      there : IsStored new q d → ((q ≡ name) × (d ≡ b)) ⊎ IsStored old q d
      there s = elim ((inserted (name_entry q s.id)).0 s.listed) [
        | inl e ↦
            let same = same_entry q name s.id id e in
            elim ((put (block_row s.id q d)).0 s.row) [
              | inl r ↦ inl (same.0, (same_row q name d b s.id id r).1)
              | inr was ↦ absurd (not_free q d (subst (λ i. Among (block_row i q d) (old block_tree)) same.1 was))
            ]
        | inr was ↦ elim ((put (block_row s.id q d)).0 s.row) [
          | inl r ↦ inl ((same_row q name d b s.id id r).0, (same_row q name d b s.id id r).1)
          | inr row ↦ inr (record { id = s.id; listed = was; row = row })
        ]
      ]

      back : ((q ≡ name) × (d ≡ b)) ⊎ IsStored old q d → IsStored new q d
      back (inl e) = record {
        id = id;
        listed = (inserted (name_entry q id)).1 (inl (ap (λ n. name_entry n id) e.0));
        row = (put (block_row id q d)).1 (inl (ap (λ n. block_row id n d) e.0 ∙ ap (block_row id name) e.1));
      }
      back (inr s) = record { id = s.id; listed = (inserted (name_entry q s.id)).1 (inr s.listed); row = (put (block_row s.id q d)).1 (inr s.row) }

  pub lists_since : (q : List ℕ) → IsListed (new name_tree) q ↔ ((q ≡ name) ⊎ IsListed (old name_tree) q)
  lists_since q = (
    λ l. elim ((inserted (name_entry q l.0)).0 l.1) [ inl e ↦ inl (same_entry q name l.0 id e).0 | inr was ↦ inr (l.0, was) ],
    λ h. elim h [ inl e ↦ (id, (inserted (name_entry q id)).1 (inl (ap (λ n. name_entry n id) e))) | inr l ↦ (l.0, (inserted (name_entry q l.0)).1 (inr l.1)) ],
  )

  pub rows_since : (i : ℤ) (q d : List ℕ) → Among (block_row i q d) (new block_tree) ↔ (((q ≡ name) × (d ≡ b) × Among (name_entry q i) (new name_tree)) ⊎ Among (block_row i q d) (old block_tree))
  rows_since i q d = (there, back)
    where
      there : Among (block_row i q d) (new block_tree) → ((q ≡ name) × (d ≡ b) × Among (name_entry q i) (new name_tree)) ⊎ Among (block_row i q d) (old block_tree)
      there m = elim ((put (block_row i q d)).0 m) [
        | inl r ↦
            let same = same_row q name d b i id r in
            inl (same.0, same.1, (inserted (name_entry q i)).1 (inl (ap (λ n. name_entry n i) same.0 ∙ ap (name_entry name) same.2)))
        | inr was ↦ inr was
      ]

      back : ((q ≡ name) × (d ≡ b) × Among (name_entry q i) (new name_tree)) ⊎ Among (block_row i q d) (old block_tree) → Among (block_row i q d) (new block_tree)
      back (inl u) = elim ((inserted (name_entry q i)).0 u.2) [
        | inl e ↦ (put (block_row i q d)).1 (inl (ap (λ k. block_row k q d) (same_entry q name i id e).1 ∙ ap (λ n. block_row id n d) u.0 ∙ ap (block_row id name) u.1))
        | inr was ↦ absurd (none (i, subst (λ n. Among (name_entry n i) (old name_tree)) u.0 was))
      ]
      back (inr was) = (put (block_row i q d)).1 (inr was)

  entries_since : IsCid name → AreNameEntries (new name_tree)
  entries_since cid = subst AreNameEntries (sym entries) (all_inserted (old name_tree) keyed.0)
    where
      all_inserted : (es : List Row) → AreNameEntries es → AreNameEntries (insert_entry plain (name_entry name id) es)
      all_inserted [] are = ((name, id, refl, cid), tt)
      all_inserted (e ∷ es) are = by (entry_cmp plain e (name_entry name id)) (all_inserted es are.1)
        where
          by : (o : Ordering) → AreNameEntries (insert_entry plain (name_entry name id) es) → AreNameEntries (match_ordering o (e ∷ insert_entry plain (name_entry name id) es) (e ∷ es) (name_entry name id ∷ e ∷ es))
          by Less more = (are.0, more)
          by Equal more = are
          by Greater more = ((name, id, refl, cid), are)

  pub keyed_since : IsCid name → IsKeyed (new name_tree)
  keyed_since cid = (entries_since cid, once)
    where
      once : (q : List ℕ) (i j : ℤ) → Among (name_entry q i) (new name_tree) → Among (name_entry q j) (new name_tree) → i ≡ j
      once q i j a b = elim ((inserted (name_entry q i)).0 a) [
        | inl e ↦ elim ((inserted (name_entry q j)).0 b) [
          | inl f ↦ (same_entry q name i id e).1 ∙ sym (same_entry q name j id f).1
          | inr was ↦ absurd (none (j, subst (λ n. Among (name_entry n j) (old name_tree)) (same_entry q name i id e).0 was))
        ]
        | inr there ↦ elim ((inserted (name_entry q j)).0 b) [
          | inl f ↦ absurd (none (i, subst (λ n. Among (name_entry n i) (old name_tree)) (same_entry q name j id f).0 there))
          | inr was ↦ keyed.1 q i j there was
        ]
      ]

-- ---- taking out

entry_itself : (e : Row) → is_eq (entry_cmp plain e e) ≡ true
entry_itself e = ap is_eq (tied_itself (entry_cmp_total plain) e)

not_other : (m n : List ℕ) (i j : ℤ) → (m ≡ n → ⊥) → is_eq (entry_cmp plain (name_entry m i) (name_entry n j)) ≡ false
not_other m n i j apart = by (entry_cmp plain (name_entry m i) (name_entry n j)) refl
  where
    by : (o : Ordering) → entry_cmp plain (name_entry m i) (name_entry n j) ≡ o → is_eq o ≡ false
    by Less t = refl
    by Greater t = refl
    by Equal t = absurd (apart (exact_bytes m n (sym (value_cmp-Blob m n) ∙ (then_tied (value_cmp (Blob m) (Blob n)) _ (rw first_key-plain at t)).0)))

module _ (old new : Trees) (name : List ℕ) (id : ℤ) (keyed : IsKeyed (old name_tree)) (at : Among (name_entry name id) (old name_tree))
    (entries : new name_tree ≡ remove_entry plain (name_entry name id) (old name_tree)) where
  left : (x : Row) → Among x (new name_tree) → Among x (old name_tree) × (not (is_eq (entry_cmp plain x (name_entry name id))) ≡ true)
  left x h = among_unfiltered (λ e. not (is_eq (entry_cmp plain e (name_entry name id)))) x (old name_tree) (subst (Among x) entries h)

  pub none_left : (i : ℤ) → Among (name_entry name i) (new name_tree) → ⊥
  none_left i h =
      let l = left (name_entry name i) h in
      let same : i ≡ id = keyed.1 name i id l.0 at in
      let itself : not (is_eq (entry_cmp plain (name_entry name id) (name_entry name id))) ≡ true = subst (λ n. not (is_eq (entry_cmp plain (name_entry name n) (name_entry name id))) ≡ true) same l.1 in
      true≢false (sym itself ∙ ap not (entry_itself (name_entry name id)))

  pub keyed_left : IsKeyed (new name_tree)
  keyed_left = (subst AreNameEntries (sym entries) (all-filter _ (λ e. not (is_eq (entry_cmp plain e (name_entry name id)))) (old name_tree) keyed.0), λ q i j a b. keyed.1 q i j (left (name_entry q i) a).0 (left (name_entry q j) b).0)

  other_left : (q : List ℕ) (i : ℤ) → (q ≡ name → ⊥) → Among (name_entry q i) (old name_tree) → Among (name_entry q i) (new name_tree)
  other_left q i apart h = subst (Among (name_entry q i)) (sym entries) (among_filter (λ e. not (is_eq (entry_cmp plain e (name_entry name id)))) (name_entry q i) (old name_tree) (ap not (not_other q name i id apart)) h)

  pub lists_left : (q : List ℕ) → IsListed (new name_tree) q ↔ (IsListed (old name_tree) q × (q ≡ name → ⊥))
  lists_left q = (
    λ l. ((l.0, (left (name_entry q l.0) l.1).0), λ e. none_left l.0 (subst (λ n. Among (name_entry n l.0) (new name_tree)) e l.1)),
    λ h. (h.0.0, other_left q h.0.0 h.1 h.0.1),
  )

  pub entries_left : (id : ℤ) (q : List ℕ) → Among (name_entry q id) (new name_tree) ↔ (Among (name_entry q id) (old name_tree) × (q ≡ name → ⊥))
  entries_left i q = (
    λ m. ((left (name_entry q i) m).0, λ e. none_left i (subst (λ n. Among (name_entry n i) (new name_tree)) e m)),
    λ h. other_left q i h.1 h.0,
  )

  module _ (rows : (x : Row) → Among x (new block_tree) → Among x (old block_tree)) (others : (q d : List ℕ) (i : ℤ) → (q ≡ name → ⊥) → Among (block_row i q d) (old block_tree) → Among (block_row i q d) (new block_tree)) where
    pub stored_left : (q d : List ℕ) → IsStored new q d ↔ (IsStored old q d × (q ≡ name → ⊥))
    stored_left q d = (
      λ s. (record { id = s.id; listed = (left (name_entry q s.id) s.listed).0; row = rows (block_row s.id q d) s.row }, λ e. none_left s.id (subst (λ n. Among (name_entry n s.id) (new name_tree)) e s.listed)),
      λ h. record { id = h.0.id; listed = other_left q h.0.id h.1 h.0.listed; row = others q d h.0.id h.1 h.0.row },
    )

same_blob : (m n : List ℕ) → Blob m ≡ Blob n → m ≡ n
same_blob m n e = cc e

-- what is left of the table
pub rows_left : (old new : Trees) (name : List ℕ) (id : ℤ) → ClearsRow (old block_tree) (new block_tree) id name
    → ((x : Row) → Among x (new block_tree) → Among x (old block_tree)) × ((q d : List ℕ) (i : ℤ) → (q ≡ name → ⊥) → Among (block_row i q d) (old block_tree) → Among (block_row i q d) (new block_tree))
rows_left old new name id (inr h) = (λ x there. subst (Among x) h.2 there, λ q d i apart there. subst (Among (block_row i q d)) (sym h.2) there)
rows_left old new name id (inl h) = (
  λ x there. (among_unfiltered (λ r. not (has_rowid id r)) x (old block_tree) (subst (Among x) h.1 there)).0,
  λ q d i apart there. subst (Among (block_row i q d)) (sym h.1) (among_filter (λ r. not (has_rowid id r)) (block_row i q d) (old block_tree) (apart_row q d i apart there (has_rowid id (block_row i q d)) refl) there),
)
  where
    apart_row : (q d : List ℕ) (i : ℤ) → (q ≡ name → ⊥) → Among (block_row i q d) (old block_tree) → (t : Bool) → has_rowid id (block_row i q d) ≡ t → not (has_rowid id (block_row i q d)) ≡ true
    apart_row q d i apart there false e = ap not e
    apart_row q d i apart there true e =
        let r = h.0 in
        elim (subst (Among (block_row i q d)) r.1 (among_filter (has_rowid id) (block_row i q d) (old block_tree) e there)) [
          | inl same ↦ absurd (apart (same_blob q name (ap (λ (x : Row). column x 1) same ∙ r.2)))
          | inr none ↦ absurd none
        ]

-- only the row that the name led to is gone
pub rows_taken : (old new : Trees) (name : List ℕ) (id : ℤ) → IsKeyed (old name_tree) → Among (name_entry name id) (old name_tree) → ClearsRow (old block_tree) (new block_tree) id name
    → (i : ℤ) (q d : List ℕ) → Among (block_row i q d) (new block_tree) ↔ (Among (block_row i q d) (old block_tree) × ((q ≡ name) × Among (name_entry q i) (old name_tree) → ⊥))
rows_taken old new name id keyed at clears i q d = by clears
  where
    row : Row
    row = block_row i q d

    number : (q ≡ name) × Among (name_entry q i) (old name_tree) → i ≡ id
    number u = keyed.1 name i id (subst (λ n. Among (name_entry n i) (old name_tree)) u.0 u.1) at

    led : IsRowOf (old block_tree) id name → Among row (old block_tree) → has_rowid id row ≡ true → (q ≡ name) × Among (name_entry q i) (old name_tree)
    led r there has =
        let is : row ≡ r.0 = elim (subst (Among row) r.1 (among_filter (has_rowid id) row (old block_tree) has there)) [ inl same ↦ same | inr none ↦ absurd none ] in
        let name_is : q ≡ name = same_blob q name (ap (λ (x : Row). column x 1) is ∙ r.2) in
        let value : Int i ≡ Int id = number_is id row refl has in
        let id_is : i ≡ id = cc value in
        (name_is, subst (λ n. Among (name_entry n i) (old name_tree)) (sym name_is) (subst (λ k. Among (name_entry name k) (old name_tree)) (sym id_is) at))

    decide : (t : Bool) → has_rowid id row ≡ t → IsRowOf (old block_tree) id name → Among row (old block_tree) → ((q ≡ name) × Among (name_entry q i) (old name_tree) → ⊥) → not (has_rowid id row) ≡ true
    decide false e r there none = ap not e
    decide true e r there none = absurd (none (led r there e))

    by : ClearsRow (old block_tree) (new block_tree) id name → Among row (new block_tree) ↔ (Among row (old block_tree) × ((q ≡ name) × Among (name_entry q i) (old name_tree) → ⊥))
    by (inl h) = (
      λ m.
          let k = among_unfiltered (λ r. not (has_rowid id r)) row (old block_tree) (subst (Among row) h.1 m) in
          (k.0, λ u. true≢false (sym k.1 ∙ ap not (ap (λ n. has_rowid id (block_row n q d)) (number u) ∙ has_own id (block_row id q d) refl))),
      λ p. subst (Among row) (sym h.1) (among_filter (λ r. not (has_rowid id r)) row (old block_tree) (decide (has_rowid id row) refl h.0 p.0 p.1) p.0),
    )
    by (inr h) = (
      λ m.
          let there = subst (Among row) h.2 m in
          (there, λ u. h.1 d (subst (λ n. Among (block_row id n d) (old block_tree)) u.0 (subst (λ n. Among (block_row n q d) (old block_tree)) (number u) there))),
      λ p. subst (Among row) (sym h.2) p.0,
    )
