-- The rows of roots that a walk finds, and what is left of them.
use Rattle.std.proofs.Common.{◌≡◌, inl, inr, ℕ, ℤ, List, [], ◌∷◌, ◌++◌, Bool, true, false, not, cond, length, Less, is_eq, refl, sym, ap, ◌∙◌, subst, true≢false, append_assoc, IsTrue, ◌⊎◌, ◌≢◌, Some}
use Rattle.std.specs.List.{AllByRecursion}
use Rattle.std.specs.Ordering.{ordering_reverse}
use Rattle.sqlite_value.specs.declared.value.Value.TheVariants.{Int, Blob}
use Rattle.sqlite_value.specs.Order.{Row, column, value_cmp}
use Rattle.sqlite_value.proofs.OrderLemmas.{value_cmp_total}
use Rattle.sqlite_trees.specs.declared.store.Direction.TheVariants.{Forward}
use Rattle.sqlite_trees.specs.declared.store.Shape.TheVariants.{Table}
use Rattle.sqlite_trees.specs.Tree.{IsTable, rowid, has_rowid, put_row, without_rowid, from_key, sought, order_of}
use Rattle.sqlite_trees.specs.View.{View, IsShaped, IsOrdered, with_cursor}
use Rattle.sqlite_exec.specs.Loops.{left_of}
use Rattle.sqlite_exec.proofs.CheckLemmas.{placed, from_no_key}
use Rattle.ipld_links.specs.Sets.{Among}
use Rattle.ipld_links.proofs.Members.{among_push}
use Rattle.ipld_tree.specs.Cid.{CidParts}
use Rattle.store_rows.specs.RootRows.{root_tree, root_row, IsRootShape, IsRowOfRoot, IsRootIn, AreRoots, HasRoot, FindsRoot, IsAboveAll, LeavesOut, TakesOutRoot, TakesRoot}
use Rattle.store_rows.proofs.Finding.{all_among}
use Rattle.store_rows.proofs.Numbers.{has_own}
use Rattle.store_rows.proofs.Surveying.{among_middle}

-- a row with other columns is not of the name
pub no_row : (name : List ℕ) (r : Row) → ((length r ≡ 2) × (column r 1 ≡ Blob name) × ((id : ℤ) → column r 0 ≢ Int id)) ⊎ ((length r ≢ 2) ⊎ (column r 1 ≢ Blob name)) → (id : ℤ) → r ≢ root_row id name
no_row name r (inl h) id same = h.2 id (rw same)
no_row name r (inr (inl h)) id same = h (rw same)
no_row name r (inr (inr h)) id same = h (rw same)

-- where a seek in the table is
pub sought_roots : (old new : View) (key : Row) → key ≡ [] → new ≡ with_cursor old 0 (sought (order_of (old.shape root_tree)) Forward key (old.trees root_tree)) → left_of new 0 ≡ old.trees root_tree
sought_roots old new key none is =
    ap (λ v. left_of v 0) is ∙ placed old 0 _ ∙ ap (λ k. from_key (order_of (old.shape root_tree)) k (old.trees root_tree)) none ∙ from_no_key (order_of (old.shape root_tree)) (old.trees root_tree)

-- ---- a walk over the rows

-- the rows passed so far are those of the names
abbrev pub ListsTo : List Row → List Row → List CidParts → Type 0
ListsTo rows left names = (done : List Row) × (done ++ left ≡ rows) × AreRoots done names

-- the rows passed so far are of other names
abbrev pub PassesTo : List Row → List Row → List ℕ → Type 0
PassesTo rows left name = (done : List Row) × (done ++ left ≡ rows) × (HasRoot done name → ⊥)

pub are_more : (rows : List Row) (names : List CidParts) (r : Row) (c : CidParts) → AreRoots rows names → IsRootIn r c → AreRoots (rows ++ r ∷ []) (names ++ c ∷ [])
are_more [] [] r c are is = (is, tt)
are_more [] (n ∷ names) r c are is = absurd are
are_more (x ∷ rows) [] r c are is = absurd are
are_more (x ∷ rows) (n ∷ names) r c are is = (are.0, are_more rows names r c are.1 is)

-- each row is a root's
root_at : (front : List Row) (r : Row) (left : List Row) (names : List CidParts) → AreRoots (front ++ r ∷ left) names → (c : CidParts) × IsRootIn r c
root_at [] r left [] are = absurd are
root_at [] r left (c ∷ names) are = (c, are.0)
root_at (x ∷ front) r left [] are = absurd are
root_at (x ∷ front) r left (c ∷ names) are = root_at front r left names are.1

pub lists_none : (rows left : List Row) → left ≡ rows → ListsTo rows left []
lists_none rows left is = ([], is, tt)

pub lists_more : (rows left : List Row) (names : List CidParts) (r : Row) (c : CidParts) → ListsTo rows (r ∷ left) names → IsRootIn r c → ListsTo rows left (names ++ c ∷ [])
lists_more rows left names r c h is = (h.0 ++ r ∷ [], append_assoc h.0 (r ∷ []) left ∙ h.1, are_more h.0 names r c h.2 is)

pub lists_no : (rows left : List Row) (names : List CidParts) (r : Row) → ListsTo rows (r ∷ left) names → ((c : CidParts) → IsRootIn r c → ⊥) → (all : List CidParts) → AreRoots rows all → ⊥
lists_no rows left names r h other all are = let k = root_at h.0 r left all (subst (λ rs. AreRoots rs all) (sym h.1) are) in other k.0 k.1

pub passes_none : (rows left : List Row) (name : List ℕ) → left ≡ rows → PassesTo rows left name
passes_none rows left name is = ([], is, λ h. absurd h.1)

pub passes_more : (rows left : List Row) (name : List ℕ) (r : Row) → PassesTo rows (r ∷ left) name → ((id : ℤ) → r ≢ root_row id name) → PassesTo rows left name
passes_more rows left name r h other = (
  h.0 ++ r ∷ [],
  append_assoc h.0 (r ∷ []) left ∙ h.1,
  λ k. elim (among_push (root_row k.0 name) h.0 r k.1) [ inl m ↦ h.2 (k.0, m) | inr e ↦ other k.0 (sym e) ],
)

pub passes_found : (rows left : List Row) (name : List ℕ) (r : Row) (id : ℤ) → PassesTo rows (r ∷ left) name → r ≡ root_row id name → FindsRoot rows name (Some id)
passes_found rows left name r id h is = (h.0, left, sym h.1 ∙ ap (λ x. h.0 ++ x ∷ left) is, h.2)

-- a row that was found is in the table
pub found_among : (rows : List Row) (name : List ℕ) (id : ℤ) → FindsRoot rows name (Some id) → Among (root_row id name) rows
found_among rows name id h = subst (Among (root_row id name)) (sym h.2) (among_middle h.0 (root_row id name) h.1)

-- ---- adding

pub put_last : (rows : List Row) (new : Row) (id : ℤ) → rowid new ≡ Int id → IsAboveAll rows id → put_row new rows ≡ rows ++ new ∷ []
put_last [] new id is above = refl
put_last (r ∷ rows) new id is above =
    let less : value_cmp (rowid r) (rowid new) ≡ Less = ap (value_cmp (rowid r)) is ∙ above.0 in
    rw less (ap (λ l. r ∷ l) (put_last rows new id is above.1))

-- ---- taking out

kept_all : (id : ℤ) (rows : List Row) → AllByRecursion (λ r. has_rowid id r ≡ false) rows → without_rowid id rows ≡ rows
kept_all id [] free = refl
kept_all id (r ∷ rows) free = rw free.0 (ap (λ l. r ∷ l) (kept_all id rows free.1))

-- rows after one with this number have another
others_after : (id : ℤ) (r : Row) (rows : List Row) → rowid r ≡ Int id → AllByRecursion (λ x. value_cmp (rowid r) (rowid x) ≡ Less) rows → AllByRecursion (λ x. has_rowid id x ≡ false) rows
others_after id r [] is up = tt
others_after id r (x ∷ rows) is up = (by, others_after id r rows is up.1)
  where
    less : value_cmp (Int id) (rowid x) ≡ Less
    less = ap (λ v. value_cmp v (rowid x)) (sym is) ∙ up.0

    by : has_rowid id x ≡ false
    by = ap is_eq (value_cmp_total.antisymm (rowid x) (Int id) ∙ ap ordering_reverse less)

-- the row with the number is removed
takes_number : (rows : List Row) (id : ℤ) (name : List ℕ) → IsTable rows → Among (root_row id name) rows → (rest : List Row) → LeavesOut (IsRowOfRoot name) (without_rowid id rows) rest → LeavesOut (IsRowOfRoot name) rows rest
takes_number [] id name up m rest l = absurd m
takes_number (r ∷ rows) id name up (inl here) rest l =
    let is : rowid r ≡ Int id = ap rowid (sym here) in
    inl ((id, sym here), subst (λ rs. LeavesOut (IsRowOfRoot name) rs rest) (kept_all id rows (others_after id r rows is up.0)) (by (not (has_rowid id r)) (ap not (has_own id r is)) l))
  where
    by : (b : Bool) → b ≡ false → LeavesOut (IsRowOfRoot name) (cond b (r ∷ without_rowid id rows) (without_rowid id rows)) rest → LeavesOut (IsRowOfRoot name) (without_rowid id rows) rest
    by true e k = absurd (true≢false e)
    by false e k = k
takes_number (r ∷ rows) id name up (inr later) rest l = stays (takes_number rows id name up.1 later) (by (not (has_rowid id r)) (ap not other) l)
  where
    other : has_rowid id r ≡ false
    other = ap is_eq (all_among (λ x. value_cmp (rowid r) (rowid x) ≡ Less) (root_row id name) rows up.0 later)

    by : (b : Bool) → b ≡ true → LeavesOut (IsRowOfRoot name) (cond b (r ∷ without_rowid id rows) (without_rowid id rows)) rest → LeavesOut (IsRowOfRoot name) (r ∷ without_rowid id rows) rest
    by true e k = k
    by false e k = absurd (true≢false (sym e))

    stays : ((more : List Row) → LeavesOut (IsRowOfRoot name) (without_rowid id rows) more → LeavesOut (IsRowOfRoot name) rows more)
        → LeavesOut (IsRowOfRoot name) (r ∷ without_rowid id rows) rest → LeavesOut (IsRowOfRoot name) (r ∷ rows) rest
    stays following (inl k) = inl (k.0, following rest k.1)
    stays following (inr k) = inr (k.0, (k.1.0, k.1.1, following k.1.0 k.1.2))

-- if there is a row, the tree is a table
pub shape_of : (v : View) (r : Row) → IsRootShape (v.shape root_tree) → IsOrdered v.shape v.trees → Among r (v.trees root_tree) → v.shape root_tree ≡ Table
shape_of v r (inl at) ordered there = at
shape_of v r (inr none) ordered there = absurd (subst (Among r) (subst (λ s. IsShaped s (v.trees root_tree)) none (ordered root_tree)) there)

pub table_of : (v : View) (r : Row) → IsRootShape (v.shape root_tree) → IsOrdered v.shape v.trees → Among r (v.trees root_tree) → IsTable (v.trees root_tree)
table_of v r rooted ordered there = (subst (λ s. IsShaped s (v.trees root_tree)) (shape_of v r rooted ordered there) (ordered root_tree)).0

-- if no row is of the name, no row is left out
leaves_all : (rows : List Row) (name : List ℕ) → (HasRoot rows name → ⊥) → LeavesOut (IsRowOfRoot name) rows rows
leaves_all [] name none = refl
leaves_all (r ∷ rows) name none = inr (λ p. none (p.0, inl (sym p.1)), (rows, refl, leaves_all rows name (λ h. none (h.0, inr h.1))))

-- some rows of the name were removed, or none; leaving out the others gives what it gives from the
-- old rows
pub record TakesSome (old now : List Row) (name : List ℕ) (taken : Bool) : Type 0 where
  pub were : IsTrue taken → HasRoot old name
  pub same : taken ≡ false → now ≡ old
  pub leaves : (rest : List Row) → LeavesOut (IsRowOfRoot name) now rest → LeavesOut (IsRowOfRoot name) old rest

pub takes_more : (old mid new : List Row) (name : List ℕ) (taken : Bool) → IsTable mid → TakesSome old mid name taken → TakesOutRoot mid new name true → TakesSome old new name true
takes_more old mid new name taken table h t = record {
  were = λ yes. by taken refl;
  same = λ e. absurd (true≢false e);
  leaves = λ rest l. h.leaves rest (takes_number mid t.0 name table there rest (subst (λ rows. LeavesOut (IsRowOfRoot name) rows rest) t.2 l));
}
  where
    there : Among (root_row t.0 name) mid
    there = found_among mid name t.0 t.1

    by : (b : Bool) → taken ≡ b → HasRoot old name
    by true e = h.were e
    by false e = subst (λ rows. HasRoot rows name) (h.same e) (t.0, there)

pub takes_done : (old mid new : List Row) (name : List ℕ) (taken : Bool) → TakesSome old mid name taken → TakesOutRoot mid new name false → TakesRoot old new name taken
takes_done old mid new name taken h t = (
  (h.were, λ has. by taken refl has),
  h.leaves new (subst (LeavesOut (IsRowOfRoot name) mid) (sym t.1) (leaves_all mid name t.0)),
)
  where
    by : (b : Bool) → taken ≡ b → HasRoot old name → IsTrue taken
    by true e has = e
    by false e has = absurd (t.0 (subst (λ rows. HasRoot rows name) (sym (h.same e)) has))
