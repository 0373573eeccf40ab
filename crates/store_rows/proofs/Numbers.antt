-- Numbers of rows: which are free, and which row has one.
use Rattle.std.proofs.Common.{◌≡◌, inl, inr, ℕ, ℤ, pos, ◌+ℤ◌, List, [], ◌∷◌, ◌++◌, filter, Bool, true, false, cond, Less, is_eq, int_cmp, refl, sym, ap, ◌∙◌, subst, true≢false, arith, IsTrue, ◌≢◌, Option, None, Some, IfSome, MatchBool, MatchOption, option_map, Vec, Global}
use Rattle.std.proofs.lemmas.Int.{ints}
use Rattle.std.proofs.lemmas.Bool.Decides.{nat_tests}
use Rattle.std.proofs.lemmas.Cmp.{tied_itself}
use Rattle.sqlite_value.specs.declared.value.Value.{Value}
use Rattle.sqlite_value.specs.declared.value.Value.TheVariants.{Null, Int, Blob}
use Rattle.sqlite_value.specs.Order.{Row, column, value_cmp}
use Rattle.sqlite_value.proofs.OrderLemmas.{value_cmp_total, value_cmp-Int}
use Rattle.sqlite_trees.specs.declared.store.Shape.TheVariants as shape
use Rattle.sqlite_trees.specs.Tree.{rowid, has_rowid, IsTable}
use Rattle.sqlite_trees.specs.View.{View, IsShaped, IsOrdered, is_int, Finds}
use Rattle.sqlite_exec.specs.Write.{IsLast}
use Rattle.ipld_links.specs.Sets.{Among}
use Rattle.store_rows.specs.Rows.{block_row, last_id, IsFreeId, FreesId, ReadsBlockRow, IsRowIn, IsRowOf}
use Rattle.store_rows.specs.RootRows.{IsAboveAll}
use Rattle.store_rows.proofs.Finding.{all_among}

pub table_rows : (v : View) (t : ℕ) → v.shape t ≡ shape.Table → IsOrdered v.shape v.trees → IsShaped shape.Table (v.trees t)
table_rows v t at ordered = subst (λ s. IsShaped s (v.trees t)) at (ordered t)

-- ---- lists

pub among_filter : {X : Type 0} (p : X → Bool) (x : X) (xs : List X) → p x ≡ true → Among x xs → Among x (filter p xs)
among_filter p x [] t h = absurd h
among_filter p x (y ∷ ys) t h = by (p y) refl h (among_filter p x ys t)
  where
    by : (b : Bool) → p y ≡ b → Among x (y ∷ ys) → (Among x ys → Among x (filter p ys)) → Among x (cond b (y ∷ filter p ys) (filter p ys))
    by true e (inl same) more = inl same
    by true e (inr later) more = inr (more later)
    by false e (inl same) more = absurd (true≢false (sym t ∙ ap p same ∙ e))
    by false e (inr later) more = more later

pub among_unfiltered : {X : Type 0} (p : X → Bool) (x : X) (xs : List X) → Among x (filter p xs) → Among x xs × (p x ≡ true)
among_unfiltered p x [] h = absurd h
among_unfiltered p x (y ∷ ys) h = by (p y) refl h (among_unfiltered p x ys)
  where
    by : (b : Bool) → p y ≡ b → Among x (cond b (y ∷ filter p ys) (filter p ys)) → (Among x (filter p ys) → Among x ys × (p x ≡ true)) → Among x (y ∷ ys) × (p x ≡ true)
    by true e (inl same) more = (inl same, ap p same ∙ e)
    by true e (inr later) more = (inr (more later).0, (more later).1)
    by false e later more = (inr (more later).0, (more later).1)

pub among_last : {X : Type 0} (x : X) (xs : List X) → Among x (xs ++ x ∷ [])
among_last x [] = inl refl
among_last x (y ∷ ys) = inr (among_last x ys)

-- ---- numbers

pub has_own : (id : ℤ) (r : Row) → rowid r ≡ Int id → has_rowid id r ≡ true
has_own id r is = ap (λ v. is_eq (value_cmp v (Int id))) is ∙ ap is_eq (tied_itself value_cmp_total (Int id))

int_tied : (m n : ℤ) → is_eq (int_cmp m n) ≡ true → m ≡ n
int_tied m n h = grind (arith, ints, nat_tests)

int_value : (v : Value) → IsTrue (is_int v) → (n : ℤ) × (v ≡ Int n)
int_value Null h = absurd (true≢false (sym h))
int_value (Int n) h = (n, refl)
int_value _ h = absurd (true≢false (sym h))

-- the number that a row of a table has
pub number_is : (id : ℤ) (r : Row) → IsTrue (is_int (rowid r)) → has_rowid id r ≡ true → rowid r ≡ Int id
number_is id r int has =
    let n = int_value (rowid r) int in
    n.1 ∙ ap Int (int_tied n.0 id (ap is_eq (sym (value_cmp-Int n.0 id)) ∙ ap (λ v. is_eq (value_cmp v (Int id))) (sym n.1) ∙ has))

-- ---- a free number

next_above : (k : ℤ) → int_cmp k (k +ℤ pos 1) ≡ Less
next_above k = grind (arith, ints, nat_tests)

below_new : (id : ℤ) (r : Row) → value_cmp (rowid r) (Int id) ≡ Less → has_rowid id r ≡ false
below_new id r below = ap is_eq below

-- the rows before the last, and the last, are below the next number
above_last : (k : ℤ) (front : List Row) (r : Row) → rowid r ≡ Int k → IsTable (front ++ r ∷ []) → IsAboveAll (front ++ r ∷ []) (k +ℤ pos 1)
above_last k [] r is up = (ap (λ v. value_cmp v (Int (k +ℤ pos 1))) is ∙ value_cmp-Int k (k +ℤ pos 1) ∙ next_above k, tt)
above_last k (x ∷ front) r is up =
    let last : value_cmp (rowid x) (rowid r) ≡ Less = all_among (λ y. value_cmp (rowid x) (rowid y) ≡ Less) r (front ++ r ∷ []) up.0 (among_last r front) in
    let next : value_cmp (rowid r) (Int (k +ℤ pos 1)) ≡ Less = ap (λ v. value_cmp v (Int (k +ℤ pos 1))) is ∙ value_cmp-Int k (k +ℤ pos 1) ∙ next_above k in
    (value_cmp_total.trans (rowid x) (rowid r) (Int (k +ℤ pos 1)) last next, above_last k front r is up.1)

free_above : (id : ℤ) (rows : List Row) → IsAboveAll rows id → IsFreeId rows id
free_above id [] above = tt
free_above id (r ∷ rows) above = (below_new id r above.0, free_above id rows above.1)

pub frees_above : (rows : List Row) (r : Row) (found : Option ℤ) → IsShaped shape.Table rows → IsLast rows r true
    → MatchOption found ((id : ℤ) → column r 0 ≡ Int id → id ≡ last_id) (λ n. (id : ℤ) × (column r 0 ≡ Int id) × (n ≡ id +ℤ pos 1)) → IfSome found (IsAboveAll rows)
frees_above rows r None table last h = tt
frees_above rows r (Some n) table last h =
    subst (IsAboveAll rows) (sym h.2) (subst (λ xs. IsAboveAll xs (h.0 +ℤ pos 1)) (sym last.1) (above_last h.0 last.0 r h.1 (subst IsTable last.1 table.0)))

pub frees : (rows : List Row) (r : Row) (found : Option ℤ) → IsShaped shape.Table rows → IsLast rows r true
    → MatchOption found ((id : ℤ) → column r 0 ≡ Int id → id ≡ last_id) (λ n. (id : ℤ) × (column r 0 ≡ Int id) × (n ≡ id +ℤ pos 1)) → FreesId rows found
frees rows r None table last h =
    let here : Among r rows = subst (Among r) (sym last.1) (among_last r last.0) in
    let n = int_value (rowid r) (all_among (λ y. IsTrue (is_int (rowid y))) r rows table.1 here) in
    (r, here, n.1 ∙ ap Int (h n.0 n.1))
frees rows r (Some n) table last h =
    free_above n rows (frees_above rows r (Some n) table last h)

pub frees_first : (rows : List Row) (r : Row) → IsLast rows r false → FreesId rows (Some (pos 1))
frees_first rows r h = subst (λ xs. IsFreeId xs (pos 1)) (sym h) tt

pub first_above : (rows : List Row) (r : Row) → IsLast rows r false → IsAboveAll rows (pos 1)
first_above rows r h = subst (λ xs. IsAboveAll xs (pos 1)) (sym h) tt

-- ---- the row with a number

pub reads_found : (rows : List Row) (id : ℤ) (name : List ℕ) (r : Row) (found : Option (List ℕ)) → IsShaped shape.Table rows → Finds rows id r true
    → MatchOption found ((i : ℤ) (b : List ℕ) → r ≢ block_row i name b) (λ b. r ≡ column r 0 ∷ Blob name ∷ Blob b ∷ []) → ReadsBlockRow rows id name found
reads_found rows id name r None table finds other = λ b there.
    elim (subst (Among (block_row id name b)) finds (among_filter (has_rowid id) (block_row id name b) rows (has_own id (block_row id name b) refl) there))
    [ inl same ↦ other id b (sym same) | inr none ↦ none ]
reads_found rows id name r (Some b) table finds is =
    let here = among_unfiltered (has_rowid id) r rows (subst (Among r) (sym finds) (inl refl)) in
    let number = number_is id r (all_among (λ y. IsTrue (is_int (rowid y))) r rows table.1 here.0) here.1 in
    finds ∙ ap (λ x. x ∷ []) (is ∙ ap (λ v. v ∷ Blob name ∷ Blob b ∷ []) number)

pub reads_none : (rows : List Row) (id : ℤ) (name : List ℕ) (r : Row) → Finds rows id r false → ReadsBlockRow rows id name None
reads_none rows id name r finds b there = subst (Among (block_row id name b)) finds (among_filter (has_rowid id) (block_row id name b) rows (has_own id (block_row id name b) refl) there)

pub row_in : (rows : List Row) (id : ℤ) (name b : List ℕ) (r : Row) (found : Bool) → IsShaped shape.Table rows → Finds rows id r true
    → MatchBool found (r ≡ column r 0 ∷ Blob name ∷ Blob b ∷ []) ((i : ℤ) → r ≢ block_row i name b) → IsRowIn rows id name b found
row_in rows id name b r true table finds is = reads_found rows id name r (Some b) table finds is
row_in rows id name b r false table finds other = λ there.
    elim (subst (Among (block_row id name b)) finds (among_filter (has_rowid id) (block_row id name b) rows (has_own id (block_row id name b) refl) there))
    [ inl same ↦ other id (sym same) | inr none ↦ none ]

-- the row that was found is of another name, or none was found
pub none_of : (rows : List Row) (id : ℤ) (name : List ℕ) (r : Row) (found : Bool) → Finds rows id r found → (found ≡ true → column r 1 ≢ Blob name) → IsRowOf rows id name → ⊥
none_of rows id name r false finds other h = absurd (cc (sym finds ∙ h.1))
none_of rows id name r true finds other h =
    let is : r ≡ h.0 = cc (sym finds ∙ h.1) in
    other refl (ap (λ (x : Row). column x 1) is ∙ h.2)

pub none_in : (rows : List Row) (id : ℤ) (name : List ℕ) (r : Row) (found : Bool) → Finds rows id r found → (found ≡ true → column r 1 ≢ Blob name) → (b : List ℕ) → Among (block_row id name b) rows → ⊥
none_in rows id name r false finds other = reads_none rows id name r finds
none_in rows id name r true finds other = λ b there.
    elim (subst (Among (block_row id name b)) finds (among_filter (has_rowid id) (block_row id name b) rows (has_own id (block_row id name b) refl) there))
    [ inl same ↦ other refl (ap (λ (x : Row). column x 1) (sym same)) | inr none ↦ none ]

pub match_items : (o : Option (Vec ℕ Global)) (P : Type 0) (Q : List ℕ → Type 0) → MatchOption o P (λ v. Q v.items) → MatchOption (option_map (λ (v : Vec ℕ Global). v.items) o) P Q
match_items None P Q h = h
match_items (Some v) P Q h = h
