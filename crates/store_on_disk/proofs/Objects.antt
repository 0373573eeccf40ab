-- A file that lists its trees as those of a store is a file of a store's schema.
use Rattle.std.proofs.Common.{◌≡◌, ℕ, zero, suc, ◌+◌, ◌<◌, ◌≤◌, pos, List, [], ◌∷◌, ◌++◌, length, ◌==◌, count_by, Bool, true, false, not, ◌&&◌, ◌||◌, nat_le, slice_index, if◌then◌else◌, refl, sym, ap, ◌∙◌, subst, true≢false, arith}
use mathlib.Core.Path.{fun_ext}
use Rattle.std.specs.List.{list_any, list_all, AllByRecursion}
use Rattle.std.proofs.lemmas.Bool.{and_from, and_parts}
use Rattle.sqlite_value.specs.declared.value.Value.TheVariants.{Int}
use Rattle.sqlite_value.specs.Order.{Row, column}
use Rattle.sqlite_trees.specs.declared.store.Shape.{Shape}
use Rattle.sqlite_trees.specs.declared.store.Shape.TheVariants.{Absent, Table, Index, Pageless, FrozenTable, FrozenIndex}
use Rattle.sqlite_trees.specs.Tree.{rowid}
use Rattle.sqlite_trees.specs.Objects.{listing, shape_code, catalog_tree, version_tree}
use Rattle.sqlite_trees.specs.Listing.{same_code}
use Rattle.sqlite_pages.specs.PageMap.{PageMap}
use Rattle.sqlite_pool.specs.File.{in_use}
use Rattle.sqlite_store.specs.declared.catalog.Wanted.{Wanted}
use Rattle.sqlite_store.specs.Db.{rows_at, roots_of, trees_in, slot_shape, slot_root, IsKept, IsDb, IsFile}
use Rattle.sqlite_store.specs.Catalog.{is_present, is_about, is_near, describes, root_in, roots_in, may_stand, is_listed_once, fits_shape, shape_at, reals_at, is_well_formed, has_no_pages, MayAllStand}
use Rattle.sqlite_store.specs.Listing.{listed, listed_from, all_trees, file_trees}

-- ---- what a list of trees says of each

-- they are of one tree, as far as a file and its list tell
pub record IsSameTree (a b : Wanted) : Type 0 where
  pub shape : a.shape ≡ b.shape
  pub reals : a.reals ≡ b.reals
  pub kind : column a.row 0 ≡ column b.row 0
  pub name : column a.row 1 ≡ column b.row 1
  pub table : column a.row 2 ≡ column b.row 2
  pub text : column a.row 3 ≡ column b.row 3

-- the first are of the same trees, and after those there is nothing
abbrev pub AreSame : List Wanted → List Wanted → Type 0
AreSame [] [] = Unit {0}
AreSame [] (v ∷ b) = ⊥
AreSame (w ∷ a) [] = (w.shape ≡ Absent) × AreSame a []
AreSame (w ∷ a) (v ∷ b) = IsSameTree w v × AreSame a b

abbrev listed_if : Bool → Row → List Row
listed_if true r = r ∷ []
listed_if false r = []

listed_is : (n : ℕ) (w : Wanted) (s : Shape) → listed n w s ≡ listed_if (is_present s) (listing n w.row s w.reals)
listed_is n w Absent = refl
listed_is n w Table = refl
listed_is n w (Index o) = refl
listed_is n w Pageless = refl
listed_is n w FrozenTable = refl
listed_is n w (FrozenIndex o) = refl

absent_of : (s : Shape) → is_present s ≡ false → s ≡ Absent
absent_of Absent e = refl
absent_of Table e = absurd (true≢false e)
absent_of (Index o) e = absurd (true≢false e)
absent_of Pageless e = absurd (true≢false e)
absent_of FrozenTable e = absurd (true≢false e)
absent_of (FrozenIndex o) e = absurd (true≢false e)

-- the row has a number above this one
abbrev IsPast : ℕ → Row → Type 0
IsPast k r = (n : ℕ) × (rowid r ≡ Int (pos n)) × (k < n)

abbrev FirstIsPast : ℕ → List Row → Type 0
FirstIsPast k [] = Unit {0}
FirstIsPast k (r ∷ rows) = IsPast k r

past : (a : List Wanted) (at k : ℕ) → k ≤ at → FirstIsPast k (listed_from at a)
past [] at k h = tt
past (w ∷ a) at k h = subst (λ l. FirstIsPast k (l ++ listed_from (at + 1) a)) (sym (listed_is at w w.shape)) (by (is_present w.shape) (past a (at + 1) k (omega arith)))
  where
    by : (b : Bool) → FirstIsPast k (listed_from (at + 1) a) → FirstIsPast k (listed_if b (listing at w.row w.shape w.reals) ++ listed_from (at + 1) a)
    by true more = (at + 1, refl, omega arith)
    by false more = more

abbrev pub AreAllPresent : List Wanted → Type 0
AreAllPresent = AllByRecursion (λ w. is_present w.shape ≡ true)

none_there : (at : ℕ) (a : List Wanted) → listed_from at a ≡ [] → AreSame a []
none_there at [] e = tt
none_there at (w ∷ a) e = by (is_present w.shape) refl (subst (λ l. l ++ listed_from (at + 1) a ≡ []) (listed_is at w w.shape) e) (none_there (at + 1) a)
  where
    by : (b : Bool) → is_present w.shape ≡ b → listed_if b (listing at w.row w.shape w.reals) ++ listed_from (at + 1) a ≡ [] → (listed_from (at + 1) a ≡ [] → AreSame a []) → AreSame (w ∷ a) []
    by true t same more = absurd (cc)
    by false t same more = (absent_of w.shape t, more same)

pub same_trees : (at : ℕ) (a b : List Wanted) → AreAllPresent b → listed_from at a ≡ listed_from at b → AreSame a b
same_trees at a [] all e = none_there at a e
same_trees at [] (v ∷ b) all e = absurd (let one : [] ≡ listing at v.row v.shape v.reals ∷ listed_from (at + 1) b = e ∙ ap (λ l. l ++ listed_from (at + 1) b) (listed_is at v v.shape ∙ ap (λ p. listed_if p (listing at v.row v.shape v.reals)) all.0) in cc)
same_trees at (w ∷ a) (v ∷ b) all e = by (is_present w.shape) refl
    (ap (λ l. l ++ listed_from (at + 1) a) (sym (listed_is at w w.shape)) ∙ e ∙ ap (λ l. l ++ listed_from (at + 1) b) (listed_is at v v.shape ∙ ap (λ p. listed_if p (listing at v.row v.shape v.reals)) all.0))
    (same_trees (at + 1) a b all.1) (past a (at + 1) (at + 1) (omega arith))
  where
    by : (p : Bool) → is_present w.shape ≡ p → listed_if p (listing at w.row w.shape w.reals) ++ listed_from (at + 1) a ≡ listing at v.row v.shape v.reals ∷ listed_from (at + 1) b
        → (listed_from (at + 1) a ≡ listed_from (at + 1) b → AreSame a b) → FirstIsPast (at + 1) (listed_from (at + 1) a) → AreSame (w ∷ a) (v ∷ b)
    by true t same more low =
        let codes : shape_code w.shape ≡ shape_code v.shape = cc same in
        (record { shape = same_code w.shape v.shape codes; reals = cc same; kind = cc same; name = cc same; table = cc same; text = cc same }, more (cc same))
    by false t same more low = absurd (let p = subst (FirstIsPast (at + 1)) same low in let n : p.0 ≡ at + 1 = cc p.1 in omega (arith, p.2, n))

-- ---- what a file has of them

module _ (w v : Wanted) (s : IsSameTree w v) where
  describes_same : (e : Row) → describes w e ≡ describes v e
  unfolding describes is_about
  describes_same e = rw (s.shape, s.kind, s.name, s.table, s.text)

  near_same : (e : Row) → is_near w e ≡ is_near v e
  near_same e = rw s.table

  root_same : (rows : List Row) → root_in rows w ≡ root_in rows v
  root_same [] = refl
  root_same (e ∷ rows) = rw (describes_same e, root_same rows)

  count_same : (rows : List Row) → count_by (describes w) rows ≡ count_by (describes v) rows
  count_same rows = ap (λ f. count_by f rows) (fun_ext describes_same)

  once_same : (rows : List Row) → is_listed_once rows w ≡ is_listed_once rows v
  unfolding is_listed_once
  once_same rows = ap (λ n. nat_le n 1) (count_same rows)

  fits_same : fits_shape w ≡ fits_shape v
  fits_same = rw (s.shape, s.kind, s.text)

not_described : (w : Wanted) (e : Row) → w.shape ≡ Absent → describes w e ≡ false
unfolding describes
not_described w e absent = rw absent

no_root : (w : Wanted) (rows : List Row) → w.shape ≡ Absent → root_in rows w ≡ 0
no_root w [] absent = refl
no_root w (e ∷ rows) absent = rw (not_described w e absent, no_root w rows absent)

shapes_same : (a b : List Wanted) → AreSame a b → (t : ℕ) → shape_at a t ≡ shape_at b t
shapes_same [] [] h t = refl
shapes_same [] (v ∷ b) h t = absurd h
shapes_same (w ∷ a) [] h zero = h.0
shapes_same (w ∷ a) [] h (suc t) = shapes_same a [] h.1 t
shapes_same (w ∷ a) (v ∷ b) h zero = h.0.shape
shapes_same (w ∷ a) (v ∷ b) h (suc t) = shapes_same a b h.1 t

reals_same : (a b : List Wanted) → AreSame a b → (t : ℕ) → t < length b → reals_at a t ≡ reals_at b t
reals_same [] [] h t low = absurd (omega (arith, low))
reals_same [] (v ∷ b) h t low = absurd h
reals_same (w ∷ a) [] h t low = absurd (omega (arith, low))
reals_same (w ∷ a) (v ∷ b) h zero low = h.0.reals
reals_same (w ∷ a) (v ∷ b) h (suc t) low = reals_same a b h.1 t (omega (arith, low))

roots_same : (rows : List Row) (a b : List Wanted) → AreSame a b → (t : ℕ) → slice_index (roots_in rows a) t ≡ slice_index (roots_in rows b) t
roots_same rows [] [] h t = refl
roots_same rows [] (v ∷ b) h t = absurd h
roots_same rows (w ∷ a) [] h zero = no_root w rows h.0
roots_same rows (w ∷ a) [] h (suc t) = roots_same rows a [] h.1 t
roots_same rows (w ∷ a) (v ∷ b) h zero = root_same w v h.0 rows
roots_same rows (w ∷ a) (v ∷ b) h (suc t) = roots_same rows a b h.1 t

described_same : (a b : List Wanted) → AreSame a b → (e : Row) → list_any (λ w. describes w e) a ≡ list_any (λ w. describes w e) b
described_same [] [] h e = refl
described_same [] (v ∷ b) h e = absurd h
described_same (w ∷ a) [] h e = rw (not_described w e h.0) (described_same a [] h.1 e)
described_same (w ∷ a) (v ∷ b) h e = rw (describes_same w v h.0 e, described_same a b h.1 e)

near_there : (a b : List Wanted) → AreSame a b → (e : Row) → list_any (λ w. is_near w e) b ≡ true → list_any (λ w. is_near w e) a ≡ true
near_there [] [] h e near = near
near_there [] (v ∷ b) h e near = absurd h
near_there (w ∷ a) [] h e near = absurd (true≢false (sym near))
near_there (w ∷ a) (v ∷ b) h e near = or_more (near_same w v h.0 e) (near_there a b h.1 e) near
  where
    or_more : {p q x y : Bool} → p ≡ q → (y ≡ true → x ≡ true) → (q || y) ≡ true → (p || x) ≡ true
    or_more {p} {q = true} {x} {y} same more either = rw same
    or_more {p} {q = false} {x} {y} same more either = rw same (more either)

may_more : (p : Bool) {n m : Bool} → (m ≡ true → n ≡ true) → (p && not n) ≡ true → (p && not m) ≡ true
may_more true {n} {m = false} imp e = refl
may_more true {n} {m = true} imp e = absurd (true≢false (sym e ∙ ap not (imp refl)))
may_more false {n} {m} imp e = e

-- an entry that may come under the one may come under the other
stands_same : (a b : List Wanted) → AreSame a b → (e : Row) → may_stand a e ≡ true → may_stand b e ≡ true
unfolding may_stand
stands_same a b h e stands = by (is_well_formed e) (list_any (λ w. describes w e) a) (list_any (λ w. describes w e) b) (described_same a b h e) (has_no_pages e) (near_there a b h e) stands
  where
    by : (p d c : Bool) → d ≡ c → (q : Bool) {n m : Bool} → (m ≡ true → n ≡ true) → (p && (if d then true else q && not n)) ≡ true → (p && (if c then true else q && not m)) ≡ true
    by p true true same q imp e = e
    by p false false same q imp e = and_from p _ (and_parts p _ e).0 (may_more q imp (and_parts p _ e).1)
    by p true false same q imp e = absurd (true≢false same)
    by p false true same q imp e = absurd (true≢false (sym same))

all_stand : (a b : List Wanted) → AreSame a b → (rows : List Row) → list_all (may_stand a) rows ≡ true → list_all (may_stand b) rows ≡ true
all_stand a b h [] all = all
all_stand a b h (e ∷ rows) all = let p = and_parts _ _ all in and_from _ _ (stands_same a b h e p.0) (all_stand a b h rows p.1)

all_once : (a b : List Wanted) → AreSame a b → (rows : List Row) → list_all (is_listed_once rows) a ≡ true → list_all (is_listed_once rows) b ≡ true
all_once [] [] h rows all = all
all_once [] (v ∷ b) h rows all = absurd h
all_once (w ∷ a) [] h rows all = refl
all_once (w ∷ a) (v ∷ b) h rows all = let p = and_parts _ _ all in and_from _ _ (sym (once_same w v h.0 rows) ∙ p.0) (all_once a b h.1 rows p.1)

all_fit : (a b : List Wanted) → AreSame a b → list_all fits_shape a ≡ true → list_all fits_shape b ≡ true
all_fit [] [] h all = all
all_fit [] (v ∷ b) h all = absurd h
all_fit (w ∷ a) [] h all = refl
all_fit (w ∷ a) (v ∷ b) h all = let p = and_parts _ _ all in and_from _ _ (sym (fits_same w v h.0) ∙ p.0) (all_fit a b h.1 p.1)

may_all_stand : (a b : List Wanted) → AreSame a b → (rows : List Row) → MayAllStand a rows → MayAllStand b rows
may_all_stand a b h rows all =
    let p = and_parts _ _ all in
    let q = and_parts _ _ p.0 in
    let r = and_parts _ _ q.0 in
    and_from _ _ (and_from _ _ (and_from _ _ (all_stand a b h rows r.0) (all_once a b h rows r.1)) (all_fit a b h q.1)) p.1

module _ (size : ℕ) (a b : List Wanted) (h : AreSame a b) where
  roots_are : (pages : PageMap) (t : ℕ) → slice_index (roots_of size a pages) t ≡ slice_index (roots_of size b pages) t
  unfolding roots_of
  roots_are pages t = roots_same (rows_at size pages Table 1) a b h t

  kept_as : (pages : PageMap) (db : IsDb size a pages) (slot : ℕ) → IsKept size (db.layouts slot) (slot_shape b slot) (slot_root (roots_of size b pages) slot)
  kept_as pages db zero = db.trees.kept zero
  kept_as pages db (suc t) =
      subst (λ s. IsKept size (db.layouts (suc t)) s (slice_index (roots_of size b pages) t)) (shapes_same a b h t) (subst (IsKept size (db.layouts (suc t)) (shape_at a t)) (roots_are pages t) (db.trees.kept (suc t)))

  db_as : (pages : PageMap) → IsDb size a pages → IsDb size b pages
  db_as pages db = record {
    layouts = db.layouts;
    trees = record { laid = db.trees.laid; kept = kept_as pages db; apart = db.trees.apart; covered = db.trees.covered };
    known = may_all_stand a b h (rows_at size pages Table 1) db.known;
  }

  pub file_as : (pages : PageMap) → IsFile size a pages → IsFile size b pages
  file_as pages f = record { whole = f.whole; sound = f.sound; db = db_as (in_use size pages) f.db }

  trees_as : (pages : PageMap) (t : ℕ) → t < length b → trees_in size a pages t ≡ trees_in size b pages t
  unfolding trees_in
  trees_as pages t low = rw (shapes_same a b h t, reals_same a b h t low, roots_are pages t)

  -- such a tree of the file reads as it does under the other
  pub tree_as : (pages : PageMap) (t : ℕ) → t < length b → (t == catalog_tree) ≡ false → (t == version_tree) ≡ false → file_trees size a pages t ≡ file_trees size b pages t
  unfolding all_trees
  tree_as pages t low other apart = rw (apart, other) (trees_as (in_use size pages) t low)
