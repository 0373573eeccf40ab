-- What the calls of a store return.
use Rattle.std.proofs.Common.{◌≡◌, ◌↔◌, ◌⊎◌, inl, inr, ℕ, ℤ, ◌≤◌, List, [], ◌∷◌, filter, Bool, true, false, refl, sym, ap, ◌∙◌, subst, true≢false, IsTrue, arith, Option, None, option_map, Result, Ok, Err, IfOk, IfErr, OnOk, OnErr, Vec, Global}
use Rattle.std.proofs.Math.Decide.{ℕ_discrete}
use Rattle.std.proofs.Math.IntN.{ℤ_discrete}
use mathlib.Core.List.{List-discrete}
use Rattle.sqlite_disk.specs.Disk.{MoreFaults}
use Rattle.sqlite_trees.specs.Tree.{Trees, has_rowid}
use Rattle.sqlite_trees.specs.View.{View, IsClean, KeepsCommitted, IsRolledBack, HasCause, OnlyWrites, Commits, Tells}
use Rattle.sqlite_trees.specs.Objects.{catalog_tree}
use Rattle.sqlite_trees.specs.declared.store.Store.{Ghosts}
use Rattle.sqlite_trees.specs.declared.store.Shape.{Shape}
use Rattle.sqlite_trees.specs.declared.error.StoreError.{StoreError}
use Rattle.sqlite_trees.specs.declared.error.StoreError.TheVariants as stored
use Rattle.ipld_tree.specs.Cid.{CidParts, cid_bytes, IsCid}
use Rattle.files_car.specs.Car.{Section}
use Rattle.ipld_links.specs.Sets.{Among}
use Rattle.ipld_links.specs.declared.sound.Unsound.{Unsound}
use Rattle.store_rows.specs.Rows.{block_tree, name_tree, block_row, name_entry, IsStored, IsListed, FreesId, LooksUp, WritesBlockRow, AddsBlockRow, TakesOutName, IsKeyed}
use Rattle.store_on_disk.specs.Stored.{AreAllRoots, IsReady, IsSame, IsUndone, IsNamedBy, GetsSome, GetRefused, IsDamaged, AnswersVerified, FailsByStore, IsTooLongFor, TellsOfStore, IsAdded, IsAddedTo, IsTaken, IsToldAdded, PutRefused}
use Rattle.store_rows.specs.RootRows.{root_tree, IsRootShape}
use Rattle.store_rows.specs.Ends.{WritesIn, KeepsOthers, IsOfBlocks}
use Rattle.store_rows.specs.declared.entries.Found.{Found}
use Rattle.store_rows.specs.declared.entries.Found.TheVariants.{Nothing, NoRow, Block}
use Rattle.store_rows.specs.declared.entries.Added.{Added}
use Rattle.store_rows.specs.declared.entries.Added.TheVariants.{New, Stored, NoNumber}
use Rattle.store_on_disk.specs.declared.error.StoreRefusal.{StoreRefusal}
use Rattle.store_on_disk.specs.declared.error.StoreRefusal.TheVariants as refusal
use Rattle.store_rows.proofs.Numbers.{among_unfiltered}
use Rattle.store_on_disk.proofs.Keeping.{stored_found, stored_there, stored_as_found, stored_since, keyed_since, rows_since, stored_left, none_left, lists_since, lists_left, entries_left, keyed_left, rows_left, rows_taken, ready_undone}

-- ---- getting

pub gets_some : (v : View) (name : CidParts) (found : Found) (r : Result (Option (Vec ℕ Global)) StoreRefusal) → IsKeyed (v.trees name_tree) → LooksUp v.trees (cid_bytes name) found → AnswersVerified name found r
    → IfOk r (λ o. GetsSome v name (option_map (λ (b : Vec ℕ Global). b.items) o))
gets_some v name Nothing r keyed f is = subst (λ x. IfOk x (λ o. GetsSome v name (option_map (λ (b : Vec ℕ Global). b.items) o))) (sym is) (f keyed.0)
gets_some v name NoRow r keyed f is = subst (λ x. IfOk x (λ o. GetsSome v name (option_map (λ (b : Vec ℕ Global). b.items) o))) (sym is) tt
gets_some v name (Block b) r keyed f (inl is) = subst (λ x. IfOk x (λ o. GetsSome v name (option_map (λ (b : Vec ℕ Global). b.items) o))) (sym is.0) (stored_found v.trees (cid_bytes name) b.items f.0 f.1 f.2, λ d s. stored_as_found v.trees (cid_bytes name) d b.items f.0 keyed f.1 f.2 s)
gets_some v name (Block b) r keyed f (inr is) = subst (λ x. IfOk x (λ o. GetsSome v name (option_map (λ (b : Vec ℕ Global). b.items) o))) (sym is.0) tt

damaged : (v : View) (name : CidParts) (found : Found) → IsKeyed (v.trees name_tree) → LooksUp v.trees (cid_bytes name) found → (r : Result (Option (Vec ℕ Global)) StoreRefusal) → AnswersVerified name found r → (e : StoreRefusal) → r ≡ Err e → (e ≡ refusal.Damaged name) × IsDamaged v name
damaged v name Nothing keyed f r is e err = absurd (cc (sym is ∙ err))
damaged v name NoRow keyed f r is e err =
    (cc (sym err ∙ is), ((f.0, f.1), λ b s named. f.2 b (among_unfiltered (has_rowid f.0) (block_row f.0 (cid_bytes name) b) (v.trees block_tree) (stored_there v.trees (cid_bytes name) b f.0 keyed f.1 s)).0))
damaged v name (Block d) keyed f r (inl is) e err = absurd (cc (sym is.0 ∙ err))
damaged v name (Block d) keyed f r (inr is) e err =
    (cc (sym err ∙ is.0), ((f.0, f.1), λ b s named. is.1 (subst (IsNamedBy name) (stored_as_found v.trees (cid_bytes name) b d.items f.0 keyed f.1 f.2 s) named)))

told_damaged : (name : CidParts) (found : Found) (r : Result (Option (Vec ℕ Global)) StoreRefusal) → AnswersVerified name found r → (e : StoreRefusal) → r ≡ Err e → e ≡ refusal.Damaged name
told_damaged name Nothing r is e err = absurd (cc (sym is ∙ err))
told_damaged name NoRow r is e err = cc (sym err ∙ is)
told_damaged name (Block d) r (inl is) e err = absurd (cc (sym is.0 ∙ err))
told_damaged name (Block d) r (inr is) e err = cc (sym err ∙ is.0)

pub get_refused : {S : Type 0} (g : Ghosts S) (name : CidParts) (old new : S) (found : Found) (r : Result (Option (Vec ℕ Global)) StoreRefusal) → AnswersVerified name found r
    → (IsClean (g.view new) → IsKeyed ((g.view old).trees name_tree) × LooksUp (g.view old).trees (cid_bytes name) found × IsSame (g.view old) (g.view new)) → IfErr r (GetRefused g name old new)
get_refused g name old new found (Ok o) is h = tt
get_refused g name old new found (Err e) is h =
    subst (GetRefused g name old new) (sym (told_damaged name found (Err e) is e refl))
    (refl, λ clean. let k = h clean in ((damaged (g.view old) name found k.0 k.1 (Err e) is e refl).1, k.2))

pub found_if_clean : {X E : Type 0} (r : Result X E) (C : Type 0) (P : X → Type 0) → (C → IfOk r P) → IfOk r (λ x. C → P x)
found_if_clean (Ok x) C P h = h
found_if_clean (Err e) C P h = tt

pub added_if_clean : {X E : Type 0} (r : Result X E) (B C P : Type 0) → B → (C → OnOk r P) → OnOk r (B × (C → P))
added_if_clean (Ok x) B C P b h = (b, h)
added_if_clean (Err e) B C P b h = tt

-- ---- writing

pub ready_written : (old new : View) → OnlyWrites old new → new.trees catalog_tree ≡ old.trees catalog_tree → (IsTrue old.is_open → IsKeyed (new.trees name_tree) × AreAllRoots (new.trees root_tree)) → IsReady old → IsReady new
ready_written old new h same sound r =
    let shape = ap (λ (v : View). v.shape) h in
    let is_open = ap (λ (v : View). v.is_open) h in
    let committed = ap (λ (v : View). v.committed) h in
    record {
      blocks = ap (λ f. f block_tree) shape ∙ r.blocks;
      names = ap (λ f. f name_tree) shape ∙ r.names;
      lasting = shape ∙ r.lasting ∙ sym (ap (λ (v : View). v.committed_shape) h);
      listed = λ o. same ∙ r.listed (subst IsTrue is_open o) ∙ ap (λ (t : Trees). t catalog_tree) (sym committed);
      unbroken = λ o. ap (λ (v : View). v.is_broken) h ∙ r.unbroken (subst IsTrue is_open o);
      keyed = λ o. (sound (subst IsTrue is_open o)).0;
      committed = λ o. subst (λ (t : Trees). IsKeyed (t name_tree)) (sym committed) (r.committed (subst IsTrue is_open o));
      rooted = subst (λ (f : ℕ → Shape). IsRootShape (f root_tree)) (sym shape) r.rooted;
      roots = λ o. (sound (subst IsTrue is_open o)).1;
      last_roots = λ o. subst (λ (t : Trees). AreAllRoots (t root_tree)) (sym committed) (r.last_roots (subst IsTrue is_open o));
    }

-- rows of blocks and entries of names were written
pub ready_blocks : (old new : View) → WritesIn IsOfBlocks old new → (IsTrue old.is_open → IsKeyed (new.trees name_tree)) → IsReady old → IsReady new
ready_blocks old new h keyed r = ready_written old new h.frame (h.others catalog_tree not_listed) (λ o. (keyed o, subst AreAllRoots (sym (h.others root_tree not_blocks)) (r.roots o))) r
  where
    not_blocks : IsOfBlocks root_tree → ⊥
    not_blocks (inl e) = cc e
    not_blocks (inr e) = cc e

    not_listed : IsOfBlocks catalog_tree → ⊥
    not_listed (inl e) = omega (arith, e)
    not_listed (inr e) = omega (arith, e)

pub keyed_added : (old new : Trees) (name b : List ℕ) (added : Added) → IsCid name → AddsBlockRow old new name b added → IsKeyed (old name_tree) → IsKeyed (new name_tree)
keyed_added old new name b New cid (inl a) keyed = let w = a.1 in keyed_since old new name b w.0 keyed (a.0 keyed.0) w.1 w.2 w.3 cid
keyed_added old new name b New cid (inr (id, at, a)) keyed =
    let mid = a.1.0 in
    let t = a.1.1 in
    let w = a.1.2 in
    keyed_since mid new name b w.0 (keyed_left old mid name id keyed at t.0) (λ l. none_left old mid name id keyed at t.0 l.0 l.1) w.1 w.2 w.3 cid
keyed_added old new name b Stored cid (inl a) keyed = absurd a.1
keyed_added old new name b Stored cid (inr (id, at, a)) keyed = subst (λ (t : Trees). IsKeyed (t name_tree)) (sym a.1) keyed
keyed_added old new name b NoNumber cid (inl a) keyed = subst (λ (t : Trees). IsKeyed (t name_tree)) (sym a.1.1) keyed
keyed_added old new name b NoNumber cid (inr (id, at, a)) keyed = subst (λ (t : Trees). IsKeyed (t name_tree)) (sym a.1) keyed

pub keyed_taken : (old new : Trees) (name : List ℕ) (taken : Bool) → TakesOutName old new name taken → IsKeyed (old name_tree) → IsKeyed (new name_tree)
keyed_taken old new name false t keyed = subst (λ (x : Trees). IsKeyed (x name_tree)) (sym t.1) keyed
keyed_taken old new name true t keyed = keyed_left old new name t.0 keyed t.1 t.2.0

pub still_open : (old new : View) → OnlyWrites old new → IsTrue old.is_open → IsTrue new.is_open
still_open old new h o = subst IsTrue (sym (ap (λ (v : View). v.is_open) h)) o

added_view : (old new : View) (name : CidParts) (b : List ℕ) → OnlyWrites old new → old.is_broken ≡ false → IsTrue old.is_open → IsAddedTo old.trees new.trees name b → IsAdded old new name b
added_view old new name b h sound o trees = record {
  trees = trees;
  committed = ap (λ (v : View). v.committed) h;
  reals = ap (λ (v : View). v.reals) h;
  was_open = o;
  was_sound = sound;
  is_open = still_open old new h o;
  sound = ap (λ (v : View). v.is_broken) h ∙ sound;
}

-- the name was removed, if it was listed, and is written with the bytes
written_anew : (old mid new : Trees) (name : CidParts) (b : List ℕ) → IsKeyed (mid name_tree) → (IsListed (mid name_tree) (cid_bytes name) → ⊥) → ((q d : List ℕ) → (q ≡ cid_bytes name → ⊥) → IsStored mid q d ↔ IsStored old q d)
    → ((q : List ℕ) → (q ≡ cid_bytes name → ⊥) → IsListed (mid name_tree) q ↔ IsListed (old name_tree) q) → ((id : ℤ) (q d : List ℕ) → Among (block_row id q d) (mid block_tree) ↔ (Among (block_row id q d) (old block_tree) × ((q ≡ cid_bytes name) × Among (name_entry q id) (old name_tree) → ⊥)))
    → (IsStored old (cid_bytes name) b → ⊥) → KeepsOthers IsOfBlocks old new → WritesBlockRow mid new (cid_bytes name) b → IsAddedTo old new name b
written_anew old mid new name b keyed none stays lists table other beside w = record {
  stored = λ d. (
    λ s. elim ((since (cid_bytes name) d).0 s) [ inl is ↦ is.1 | inr was ↦ absurd (none (was.id, was.listed)) ],
    λ e. (since (cid_bytes name) d).1 (inl (refl, e)),
  );
  others = λ q d apart. (
    λ s. elim ((since q d).0 s) [ inl is ↦ absurd (apart is.0) | inr was ↦ (stays q d apart).0 was ],
    λ s. (since q d).1 (inr ((stays q d apart).1 s)),
  );
  lists = λ q. (
    λ l. elim ((listed q).0 l) [ inl e ↦ inl e | inr was ↦ inr ((lists q (λ e. none (subst (IsListed (mid name_tree)) e was))).0 was) ],
    λ h. elim h [ inl e ↦ (listed q).1 (inl e) | inr l ↦ by q l (List-discrete ℕ_discrete q (cid_bytes name)) ],
  );
  rows = λ id q d. (
    λ m. elim ((rows id q d).0 m) [ inl is ↦ inl is | inr was ↦ inr ((table id q d).0 was) ],
    λ h. (rows id q d).1 (elim h [ inl is ↦ inl is | inr was ↦ inr ((table id q d).1 was) ]),
  );
  same = λ s. absurd (other s);
  beside = beside;
}
  where
    since : (q d : List ℕ) → IsStored new q d ↔ (((q ≡ cid_bytes name) × (d ≡ b)) ⊎ IsStored mid q d)
    since = stored_since mid new (cid_bytes name) b w.0 keyed none w.1 w.2 w.3

    listed : (q : List ℕ) → IsListed (new name_tree) q ↔ ((q ≡ cid_bytes name) ⊎ IsListed (mid name_tree) q)
    listed = lists_since mid new (cid_bytes name) b w.0 keyed none w.1 w.2 w.3

    rows : (id : ℤ) (q d : List ℕ) → Among (block_row id q d) (new block_tree) ↔ (((q ≡ cid_bytes name) × (d ≡ b) × Among (name_entry q id) (new name_tree)) ⊎ Among (block_row id q d) (mid block_tree))
    rows = rows_since mid new (cid_bytes name) b w.0 keyed none w.1 w.2 w.3

    by : (q : List ℕ) → IsListed (old name_tree) q → Dec (q ≡ cid_bytes name) → IsListed (new name_tree) q
    by q l (yes e) = (listed q).1 (inl e)
    by q l (no apart) = (listed q).1 (inr ((lists q apart).1 l))

-- the block is in the row of its name, and nothing is changed
stored_already : (old : Trees) (name : CidParts) (b : List ℕ) (id : ℤ) → IsKeyed (old name_tree) → Among (name_entry (cid_bytes name) id) (old name_tree) → filter (has_rowid id) (old block_tree) ≡ block_row id (cid_bytes name) b ∷ [] → IsAddedTo old old name b
stored_already old name b id keyed at row = record {
  stored = λ d. (stored_as_found old (cid_bytes name) d b id keyed at row, λ e. subst (IsStored old (cid_bytes name)) (sym e) (stored_found old (cid_bytes name) b id at row));
  others = λ q d apart. (λ s. s, λ s. s);
  lists = λ q. (λ l. inr l, λ h. elim h [ inl e ↦ (id, subst (λ n. Among (name_entry n id) (old name_tree)) (sym e) at) | inr l ↦ l ]);
  rows = λ i q d. (
    λ m. rows i q d m (List-discrete ℕ_discrete q (cid_bytes name)) (ℤ_discrete i id),
    λ h. elim h [
      | inl u ↦ subst (λ k. Among (block_row k q d) (old block_tree)) (sym (number i q u.0 u.2)) (subst (λ n. Among (block_row id n d) (old block_tree)) (sym u.0) (subst (λ x. Among (block_row id (cid_bytes name) x) (old block_tree)) (sym u.1) (among_unfiltered (has_rowid id) (block_row id (cid_bytes name) b) (old block_tree) (subst (Among (block_row id (cid_bytes name) b)) (sym row) (inl refl))).0))
      | inr was ↦ was.0
    ],
  );
  same = λ s. refl;
  beside = λ t out. refl;
}
  where
    number : (i : ℤ) (q : List ℕ) → q ≡ cid_bytes name → Among (name_entry q i) (old name_tree) → i ≡ id
    number i q e l = keyed.1 (cid_bytes name) i id (subst (λ n. Among (name_entry n i) (old name_tree)) e l) at

    rows : (i : ℤ) (q d : List ℕ) → Among (block_row i q d) (old block_tree) → Dec (q ≡ cid_bytes name) → Dec (i ≡ id)
        → ((q ≡ cid_bytes name) × (d ≡ b) × Among (name_entry q i) (old name_tree)) ⊎ (Among (block_row i q d) (old block_tree) × ((q ≡ cid_bytes name) × Among (name_entry q i) (old name_tree) → ⊥))
    rows i q d m (yes e) (yes f) =
        let there = subst (λ n. Among (block_row id n d) (old block_tree)) e (subst (λ k. Among (block_row k q d) (old block_tree)) f m) in
        let is = stored_as_found old (cid_bytes name) d b id keyed at row (record { id = id; listed = at; row = there }) in
        inl (e, is, subst (λ n. Among (name_entry n i) (old name_tree)) (sym e) (subst (λ k. Among (name_entry (cid_bytes name) k) (old name_tree)) (sym f) at))
    rows i q d m (yes e) (no apart) = inr (m, λ u. apart (number i q u.0 u.1))
    rows i q d m (no apart) decided = inr (m, λ u. apart u.0)

new_added : (old new : Trees) (name : CidParts) (b : List ℕ) → IsKeyed (old name_tree) → KeepsOthers IsOfBlocks old new → AddsBlockRow old new (cid_bytes name) b New → IsAddedTo old new name b
new_added old new name b keyed beside (inl a) =
    let none = a.0 keyed.0 in
    written_anew old old new name b keyed none (λ q d apart. (λ s. s, λ s. s)) (λ q apart. (λ l. l, λ l. l))
    (λ id q d. (λ m. (m, λ u. none (id, subst (λ n. Among (name_entry n id) (old name_tree)) u.0 u.1)), λ m. m.0)) (λ s. none (s.id, s.listed)) beside a.1
new_added old new name b keyed beside (inr (id, at, a)) =
    let mid = a.1.0 in
    let t = a.1.1 in
    let rows = rows_left old mid (cid_bytes name) id t.1 in
    let left = stored_left old mid (cid_bytes name) id keyed at t.0 rows.0 rows.1 in
    let lists = lists_left old mid (cid_bytes name) id keyed at t.0 in
    written_anew old mid new name b (keyed_left old mid (cid_bytes name) id keyed at t.0) (λ l. none_left old mid (cid_bytes name) id keyed at t.0 l.0 l.1)
    (λ q d apart. (λ s. ((left q d).0 s).0, λ s. (left q d).1 (s, apart)))
    (λ q apart. (λ l. ((lists q).0 l).0, λ l. (lists q).1 (l, apart)))
    (rows_taken old mid (cid_bytes name) id keyed at t.1)
    (λ s. a.0 (subst (λ i. Among (block_row i (cid_bytes name) b) (old block_tree)) (keyed.1 (cid_bytes name) s.id id s.listed at) s.row)) beside a.1.2

stored_added : (old new : Trees) (name : CidParts) (b : List ℕ) → IsKeyed (old name_tree) → AddsBlockRow old new (cid_bytes name) b Stored → IsAddedTo old new name b
stored_added old new name b keyed (inl a) = absurd a.1
stored_added old new name b keyed (inr (id, at, a)) = subst (λ (t : Trees). IsAddedTo old t name b) (sym a.1) (stored_already old name b id keyed at a.0)

none_added : (old new : Trees) (name b : List ℕ) → AddsBlockRow old new name b NoNumber → FreesId (old block_tree) None × (new ≡ old)
none_added old new name b (inl a) = a.1
none_added old new name b (inr (id, at, a)) = a

pub is_added : (old new : View) (name : CidParts) (b : List ℕ) (added : Added) (r : Result (Unit {0}) StoreRefusal) → WritesIn IsOfBlocks old new → old.is_broken ≡ false → IsTrue old.is_open → IsKeyed (old.trees name_tree)
    → AddsBlockRow old.trees new.trees (cid_bytes name) b added → IsToldAdded added r → OnOk r (IsAdded old new name b)
is_added old new name b New r h sound o keyed a is = subst (λ x. OnOk x (IsAdded old new name b)) (sym is) (added_view old new name b h.frame sound o (new_added old.trees new.trees name b keyed h.others a))
is_added old new name b Stored r h sound o keyed a is = subst (λ x. OnOk x (IsAdded old new name b)) (sym is) (added_view old new name b h.frame sound o (stored_added old.trees new.trees name b keyed a))
is_added old new name b NoNumber r h sound o keyed a is = subst (λ x. OnOk x (IsAdded old new name b)) (sym is) tt

pub not_added : {S : Type 0} (g : Ghosts S) (s : Section) (old new : S) (added : Added) (r : Result (Unit {0}) StoreRefusal)
    → (IsClean (g.view new) → AddsBlockRow (g.view old).trees (g.view new).trees (cid_bytes s.0) s.1 added × OnlyWrites (g.view old) (g.view new)) → IsToldAdded added r → IfErr r (PutRefused g s old new)
not_added g s old new New r h is = subst (λ x. IfErr x (PutRefused g s old new)) (sym is) tt
not_added g s old new Stored r h is = subst (λ x. IfErr x (PutRefused g s old new)) (sym is) tt
not_added g s old new NoNumber r h is = subst (λ x. IfErr x (PutRefused g s old new)) (sym is)
    (λ clean. let k = h clean in let n = none_added (g.view old).trees (g.view new).trees (cid_bytes s.0) s.1 k.0 in (n.0, record { trees = n.1; committed = ap (λ (v : View). v.committed) k.1; is_open = ap (λ (v : View). v.is_open) k.1; broken = ap (λ (v : View). v.is_broken) k.1 }))

pub is_taken : (old new : View) (name : CidParts) (taken : Bool) → WritesIn IsOfBlocks old new → IsTrue old.is_open → IsKeyed (old.trees name_tree) → TakesOutName old.trees new.trees (cid_bytes name) taken → IsTaken old new name taken
is_taken old new name true h o keyed t =
    let rows = rows_left old.trees new.trees (cid_bytes name) t.0 t.2.1 in
    record {
      was = (λ x. (t.0, t.1), λ x. refl);
      lists = lists_left old.trees new.trees (cid_bytes name) t.0 keyed t.1 t.2.0;
      entries = entries_left old.trees new.trees (cid_bytes name) t.0 keyed t.1 t.2.0;
      holds = stored_left old.trees new.trees (cid_bytes name) t.0 keyed t.1 t.2.0 rows.0 rows.1;
      rows = rows_taken old.trees new.trees (cid_bytes name) t.0 keyed t.1 t.2.1;
      beside = h.others;
      committed = ap (λ (v : View). v.committed) h.frame;
      was_open = o;
      is_open = still_open old new h.frame o;
      broken = ap (λ (v : View). v.is_broken) h.frame;
    }
is_taken old new name false h o keyed t =
    let none = t.0 keyed.0 in
    record {
      was = (λ x. absurd (true≢false (sym x)), λ l. absurd (none l));
      lists = λ q. (
        λ l. let was = subst (λ (x : Trees). IsListed (x name_tree) q) t.1 l in (was, λ e. none (subst (IsListed (old.trees name_tree)) e was)),
        λ h. subst (λ (x : Trees). IsListed (x name_tree) q) (sym t.1) h.0,
      );
      holds = λ q d. (
        λ s. let was = subst (λ x. IsStored x q d) t.1 s in (was, λ e. none (was.id, subst (λ n. Among (name_entry n was.id) (old.trees name_tree)) e was.listed)),
        λ s. subst (λ x. IsStored x q d) (sym t.1) s.0,
      );
      entries = λ id q. (
        λ m. let was = subst (λ (x : Trees). Among (name_entry q id) (x name_tree)) t.1 m in (was, λ e. none (id, subst (λ n. Among (name_entry n id) (old.trees name_tree)) e was)),
        λ h. subst (λ (x : Trees). Among (name_entry q id) (x name_tree)) (sym t.1) h.0,
      );
      rows = λ id q d. (
        λ m. (subst (λ (x : Trees). Among (block_row id q d) (x block_tree)) t.1 m, λ u. none (id, subst (λ n. Among (name_entry n id) (old.trees name_tree)) u.0 u.1)),
        λ m. subst (λ (x : Trees). Among (block_row id q d) (x block_tree)) (sym t.1) m.0,
      );
      beside = h.others;
      committed = ap (λ (v : View). v.committed) h.frame;
      was_open = o;
      is_open = still_open old new h.frame o;
      broken = ap (λ (v : View). v.is_broken) h.frame;
    }

-- ---- failures

pub cause_until : (v : View) (a b c : ℕ) (U : Type 0) (e : StoreError) → b ≤ c → HasCause v (MoreFaults a b) U e → HasCause v (MoreFaults a c) U e
cause_until v a b c U stored.OutOfMemory up h = tt
cause_until v a b c U stored.Io up h = omega arith
cause_until v a b c U stored.Corrupt up h = omega arith
cause_until v a b c U stored.Full up h = omega arith
cause_until v a b c U stored.Broken up h = h
cause_until v a b c U stored.Unstorable up h = h

pub fails_since : {S : Type 0} (g : Ghosts S) (U : Type 0) (old mid new : S) (e : StoreError) (told : StoreRefusal) → TellsOfStore e told → g.blamed new ≡ g.blamed mid → Tells (g.blamed mid) e → g.faults mid ≤ g.faults new
    → (IsClean (g.view new) → HasCause (g.view old) (MoreFaults (g.faults old) (g.faults mid)) U e × IsUndone (g.view old) (g.view new)) → FailsByStore g U old new told
fails_since g U old mid new e told t blame tells up h =
    record {
      error = e;
      tells = t;
      blamed = subst (λ b. Tells b e) (sym blame) tells;
      caused = λ clean. cause_until (g.view old) (g.faults old) (g.faults mid) (g.faults new) U e up (h clean).0;
      undone = λ clean. (h clean).1;
    }

-- a failure that can come only if a wrong answer of the disk was taken as true
pub fails_never : {S : Type 0} (g : Ghosts S) (U : Type 0) (old new : S) (e : StoreError) (told : StoreRefusal) → TellsOfStore e told → Tells (g.blamed new) e → (IsClean (g.view new) → ⊥) → FailsByStore g U old new told
fails_never g U old new e told t blamed never = record { error = e; tells = t; blamed = blamed; caused = λ clean. absurd (never clean); undone = λ clean. absurd (never clean) }

-- memory ran out, and what was not committed is undone
pub fails_for_memory : {S : Type 0} (g : Ghosts S) (old new : S) → (IsClean (g.view new) → IsUndone (g.view old) (g.view new)) → FailsByStore g ⊥ old new refusal.OutOfMemory
fails_for_memory g old new undone = record { error = stored.OutOfMemory; tells = refl; blamed = λ kind is fault. absurd (cc fault); caused = λ clean. tt; undone = undone }

pub not_number : (e : StoreError) → TellsOfStore e refusal.NoNumber → ⊥
not_number stored.OutOfMemory h = cc
not_number stored.Broken (inl h) = cc
not_number stored.Broken (inr h) = h
not_number _ h = cc

not_unsound : (e : StoreError) (cause : Unsound) → TellsOfStore e (refusal.Unsound cause) → ⊥
not_unsound stored.OutOfMemory cause h = cc
not_unsound stored.Broken cause (inl h) = cc
not_unsound stored.Broken cause (inr h) = h
not_unsound _ cause h = cc

pub put_failed : {S : Type 0} (g : Ghosts S) (s : Section) (old new : S) (told : StoreRefusal) → FailsByStore g (IsTooLongFor (g.view old) s) old new told → PutRefused g s old new told
put_failed g s old new (refusal.Unsound cause) f = absurd (not_unsound f.error cause f.tells)
put_failed g s old new refusal.NoNumber f = absurd (not_number f.error f.tells)
put_failed g s old new _ f = f

-- ---- committing

kept_itself : (v : View) → KeepsCommitted v v
kept_itself v = record { shape = refl; reals = refl; committed_shape = refl; committed_reals = refl; numbered = refl; was_open = λ h. h; committed = λ h. refl; marks = λ h. refl }

pub ready_rolled : (old new : View) → IsClean new → IsRolledBack old new → IsReady old → IsReady new
ready_rolled old new clean undone r = ready_undone old old new clean (kept_itself old) undone r

pub ready_committed : {X Y : Type 0} (r : Result X Y) (old new : View) → OnOk r (IsClean new → Commits old new) → OnErr r (IsRolledBack old new) → IsClean new → IsReady old → IsReady new
ready_committed (Err e) old new ok err clean r = ready_rolled old new clean err r
ready_committed (Ok x) old new ok err clean r =
    let is = (ok clean).is in
    let shape = ap (λ (v : View). v.shape) is in
    let is_open = ap (λ (v : View). v.is_open) is in
    record {
      blocks = ap (λ f. f block_tree) shape ∙ r.blocks;
      names = ap (λ f. f name_tree) shape ∙ r.names;
      lasting = shape ∙ sym (ap (λ (v : View). v.committed_shape) is);
      listed = λ o. ap (λ (t : Trees). t catalog_tree) (ap (λ (v : View). v.trees) is ∙ sym (ap (λ (v : View). v.committed) is));
      unbroken = λ o. ap (λ (v : View). v.is_broken) is ∙ r.unbroken (subst IsTrue is_open o);
      keyed = λ o. subst (λ (t : Trees). IsKeyed (t name_tree)) (sym (ap (λ (v : View). v.trees) is)) (r.keyed (subst IsTrue is_open o));
      committed = λ o. subst (λ (t : Trees). IsKeyed (t name_tree)) (sym (ap (λ (v : View). v.committed) is)) (r.keyed (subst IsTrue is_open o));
      rooted = subst (λ (f : ℕ → Shape). IsRootShape (f root_tree)) (sym shape) r.rooted;
      roots = λ o. subst (λ (t : Trees). AreAllRoots (t root_tree)) (sym (ap (λ (v : View). v.trees) is)) (r.roots (subst IsTrue is_open o));
      last_roots = λ o. subst (λ (t : Trees). AreAllRoots (t root_tree)) (sym (ap (λ (v : View). v.committed) is)) (r.roots (subst IsTrue is_open o));
    }
