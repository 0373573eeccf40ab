-- The rows of the roots of a database, and which names they are.
use Rattle.std.specs.Prelude.{◌≡◌, ◌⊎◌, ℕ, ℤ, List, [], ◌∷◌, ◌++◌, Option, None, Some, Bool, true, false, IsTrue, ◌↔◌, ⊤}
use Rattle.std.specs.List.{AllByRecursion}
use Rattle.std.specs.declared.cmp.Ordering.TheVariants.{Less}
use Rattle.sqlite_value.specs.declared.value.Value.TheVariants.{Int, Blob}
use Rattle.sqlite_value.specs.Order.{Row, value_cmp}
use Rattle.sqlite_trees.specs.Tree.{rowid, without_rowid}
use Rattle.sqlite_trees.specs.View.{IsStorableRow}
use Rattle.sqlite_trees.specs.declared.store.Shape.{Shape}
use Rattle.sqlite_trees.specs.declared.store.Shape.TheVariants.{Table, Absent}
use Rattle.ipld_tree.specs.Cid.{CidParts, AreCidParts, cid_bytes}
use Rattle.ipld_links.specs.Sets.{Among}
use Rattle.store_rows.specs.Rows.{FreesId}
use Rattle.store_rows.specs.declared.entries.Added.{Added}
use Rattle.store_rows.specs.declared.entries.Added.TheVariants.{New, Stored, NoNumber}

-- the tree of the table `root`: a number, and a name in its binary form, in each row
abbrev pub root_tree : ℕ
root_tree = 2

abbrev pub root_row : ℤ → List ℕ → Row
root_row id name = Int id ∷ Blob name ∷ []

-- the tree of the roots is a table, or absent, as in a database of the earlier version
abbrev pub IsRootShape : Shape → Type 0
IsRootShape s = (s ≡ Table) ⊎ (s ≡ Absent)

-- the row is of the name
abbrev pub IsRowOfRoot : List ℕ → Row → Type 0
IsRowOfRoot name r = (id : ℤ) × (r ≡ root_row id name)

-- the row is that of a root, which is a CID
abbrev pub IsRootIn : Row → CidParts → Type 0
IsRootIn r c = AreCidParts c × IsRowOfRoot (cid_bytes c) r

-- the rows are those of these names, in this order, whatever their numbers
abbrev pub AreRoots : List Row → List CidParts → Type 0
AreRoots [] [] = ⊤
AreRoots [] (c ∷ names) = ⊥
AreRoots (r ∷ rows) [] = ⊥
AreRoots (r ∷ rows) (c ∷ names) = IsRootIn r c × AreRoots rows names

-- a row is of the name
abbrev pub HasRoot : List Row → List ℕ → Type 0
HasRoot rows name = (id : ℤ) × Among (root_row id name) rows

-- the number of the first row of the name was found, or there is none
abbrev pub FindsRoot : List Row → List ℕ → Option ℤ → Type 0
FindsRoot rows name None = ¬ HasRoot rows name
FindsRoot rows name (Some id) = (before after : List Row)
    × (rows ≡ before ++ root_row id name ∷ after) × ¬ HasRoot before name

-- the number is above that of each row
abbrev pub IsAboveAll : List Row → ℤ → Type 0
IsAboveAll rows id = AllByRecursion (λ r. value_cmp (rowid r) (Int id) ≡ Less) rows

-- the outcome of storing a row of the name: it is the last one, or no number is left for it
abbrev pub AppendsRoot : List Row → List Row → List ℕ → Added → Type 0
AppendsRoot old new name New = (id : ℤ) × (new ≡ old ++ root_row id name ∷ [])
AppendsRoot old new name Stored = ⊥
AppendsRoot old new name NoNumber = FreesId old None × (new ≡ old)

-- the new list has the items that are not so, in their order
abbrev pub LeavesOut : {X : Type 0} → (X → Type 0) → List X → List X → Type 0
LeavesOut IsSo [] new = new ≡ []
LeavesOut {X} IsSo (x ∷ old) new = (IsSo x × LeavesOut IsSo old new)
    ⊎ ((¬ IsSo x) × ((more : List X) × (new ≡ x ∷ more) × LeavesOut IsSo old more))

-- no row is of the name, and nothing is changed; or the first such row is removed by its number
abbrev pub TakesOutRoot : List Row → List Row → List ℕ → Bool → Type 0
TakesOutRoot old new name false = FindsRoot old name None × (new ≡ old)
TakesOutRoot old new name true = (id : ℤ) × FindsRoot old name (Some id)
    × (new ≡ without_rowid id old)

-- each row of the name is removed, if there is one
abbrev pub TakesRoot : List Row → List Row → List ℕ → Bool → Type 0
TakesRoot old new name taken = (IsTrue taken ↔ HasRoot old name) × LeavesOut (IsRowOfRoot name) old new

-- a row is too long for a database
abbrev pub IsRootTooLong : (ℕ → ℕ) → List ℕ → Type 0
IsRootTooLong reals name = ¬ ((id : ℤ) → IsStorableRow (reals root_tree) (root_row id name))
