-- The rows of a database that holds blocks, and which blocks they are.
use Rattle.std.specs.Prelude.{◌≡◌, ◌≢◌, ◌⊎◌, ℕ, ◌^◌, ◌-◌, ℤ, pos, List, [], ◌∷◌, filter, Option, None, Some, Result, Ok, Err, Bool, true, false, ⊤}
use Rattle.std.specs.declared.cmp.Ordering.{Ordering}
use Rattle.std.specs.declared.cmp.Ordering.TheVariants.{Less}
use Rattle.std.specs.Ordering.{nat_cmp, is_lt}
use Rattle.std.specs.Cmp.Lexicographic.{slice_cmp}
use Rattle.std.specs.List.{AllByRecursion}
use Rattle.sqlite_value.specs.declared.value.Value.TheVariants.{Int, Blob}
use Rattle.sqlite_value.specs.Order.{Row, column}
use Rattle.sqlite_value.specs.Keys.{plain}
use Rattle.sqlite_trees.specs.Tree.{Trees, IsIndex, from_key, rowid, has_rowid, put_row, without_rowid, insert_entry, remove_entry}
use Rattle.sqlite_trees.specs.View.{IsStorable, IsStorableRow}
use Rattle.ipld_tree.specs.Cid.{CidParts, AreCidParts, cid_bytes, IsCid}
use Rattle.ipld_tree.specs.declared.cid_error.CidError.{CidError}
use Rattle.ipld_links.specs.Sets.{Among}
use Rattle.store_rows.specs.declared.entries.Found.{Found}
use Rattle.store_rows.specs.declared.entries.Found.TheVariants.{Nothing, NoRow, Block}
use Rattle.store_rows.specs.declared.entries.Added.{Added}
use Rattle.store_rows.specs.declared.entries.Added.TheVariants.{New, Stored, NoNumber}

-- the tree of the table `block`: a number, a name in its binary form and the bytes, in each row
abbrev pub block_tree : ℕ
block_tree = 0

-- the tree of the table's index by names
abbrev pub name_tree : ℕ
name_tree = 1

abbrev pub block_row : ℤ → List ℕ → List ℕ → Row
block_row id name b = Int id ∷ Blob name ∷ Blob b ∷ []

abbrev pub name_entry : List ℕ → ℤ → Row
name_entry name id = Blob name ∷ Int id ∷ []

-- the index leads from the name to a row, which has the name and these bytes
pub record IsStored (trees : Trees) (name b : List ℕ) : Type 0 where
  pub id : ℤ
  pub listed : Among (name_entry name id) (trees name_tree)
  pub row : Among (block_row id name b) (trees block_tree)

-- the index leads from the name to some row
abbrev pub IsListed : List Row → List ℕ → Type 0
IsListed entries name = (id : ℤ) × Among (name_entry name id) entries

-- the entry has the binary form of a CID, and a number
abbrev pub IsNameEntry : Row → Type 0
IsNameEntry e = (name : List ℕ) × (id : ℤ) × (e ≡ name_entry name id) × IsCid name

-- each row is such an entry of the index
abbrev pub AreNameEntries : List Row → Type 0
AreNameEntries entries = AllByRecursion IsNameEntry entries

-- each row is an entry, and no name has two entries
abbrev pub IsKeyed : List Row → Type 0
IsKeyed entries = AreNameEntries entries
    × ((name : List ℕ) (i j : ℤ) → Among (name_entry name i) entries → Among (name_entry name j) entries → i ≡ j)

-- the entries do not begin with one of the name
abbrev pub IsOther : List ℕ → List Row → Type 0
IsOther name [] = ⊤
IsOther name (e ∷ more) = (id : ℤ) → e ≢ name_entry name id

-- entries ascend, and the first that is not below the name is this one, or there is none
abbrev pub SeeksEntry : List Row → List ℕ → Row → Bool → Type 0
SeeksEntry es name e true = IsIndex plain es
    × ((more : List Row) × (from_key plain (Blob name ∷ []) es ≡ e ∷ more))
SeeksEntry es name e false = IsIndex plain es × (from_key plain (Blob name ∷ []) es ≡ [])

-- names are ordered by their bytes
abbrev pub name_cmp : List ℕ → List ℕ → Ordering
name_cmp = slice_cmp nat_cmp

-- the first listed name that is not below the bound
pub record IsFirstFrom (entries : List Row) (bound : List ℕ) (c : CidParts) : Type 0 where
  pub valid : AreCidParts c
  pub listed : IsListed entries (cid_bytes c)
  pub above : is_lt (name_cmp (cid_bytes c) bound) ≡ false
  pub first : (q : List ℕ) → IsListed entries q → is_lt (name_cmp q bound) ≡ false
      → (q ≡ cid_bytes c) ⊎ (name_cmp (cid_bytes c) q ≡ Less)

-- the name that an entry begins with, or why it begins with none
abbrev pub EntersName : Row → Result CidParts CidError → Type 0
EntersName e (Ok c) = AreCidParts c × (column e 0 ≡ Blob (cid_bytes c))
EntersName e (Err fault) = IsNameEntry e → ⊥

-- that name was found; or each listed name is below the bound; or an entry is invalid
abbrev pub FindsFirst : List Row → List ℕ → Option (Result CidParts CidError) → Type 0
FindsFirst entries bound None = (q : List ℕ) → IsListed entries q
    → is_lt (name_cmp q bound) ≡ true
FindsFirst entries bound (Some (Ok c)) = AreNameEntries entries → IsFirstFrom entries bound c
FindsFirst entries bound (Some (Err fault)) = AreNameEntries entries → ⊥

-- the number of the name's row was found, or the name is not listed
abbrev pub FindsName : List Row → List ℕ → Option ℤ → Type 0
FindsName entries name None = AreNameEntries entries → IsListed entries name → ⊥
FindsName entries name (Some id) = Among (name_entry name id) entries

-- no row of the table has the number
abbrev pub IsFreeId : List Row → ℤ → Type 0
IsFreeId rows id = AllByRecursion (λ r. has_rowid id r ≡ false) rows

-- the greatest number of a row
abbrev pub last_id : ℤ
last_id = pos (2 ^ 63 - 1)

-- a number that no row has, or a row has the greatest
abbrev pub FreesId : List Row → Option ℤ → Type 0
FreesId rows None = (r : Row) × Among r rows × (rowid r ≡ Int last_id)
FreesId rows (Some id) = IsFreeId rows id

-- the bytes in the row with the number, if it has the name; or there is no such row
abbrev pub ReadsBlockRow : List Row → ℤ → List ℕ → Option (List ℕ) → Type 0
ReadsBlockRow rows id name None = (b : List ℕ) → Among (block_row id name b) rows → ⊥
ReadsBlockRow rows id name (Some b) = filter (has_rowid id) rows ≡ block_row id name b ∷ []

-- what the index and the table hold for a name: no entry, an entry that does not lead to a row of
-- the name, or these bytes
abbrev pub LooksUp : Trees → List ℕ → Found → Type 0
LooksUp trees name Nothing = FindsName (trees name_tree) name None
LooksUp trees name NoRow = (id : ℤ) × Among (name_entry name id) (trees name_tree) × ReadsBlockRow (trees block_tree) id name None
LooksUp trees name (Block v) = (id : ℤ) × Among (name_entry name id) (trees name_tree) × ReadsBlockRow (trees block_tree) id name (Some v.items)

-- the number leads to a row of the name
abbrev pub IsRowOf : List Row → ℤ → List ℕ → Type 0
IsRowOf rows id name = (r : Row) × (filter (has_rowid id) rows ≡ r ∷ []) × (column r 1 ≡ Blob name)

-- the row with the number is removed if it is of the name; if it is not, nothing is changed
abbrev pub ClearsRow : List Row → List Row → ℤ → List ℕ → Type 0
ClearsRow old new id name = (IsRowOf old id name × (new ≡ without_rowid id old))
    ⊎ ((IsRowOf old id name → ⊥) × ((b : List ℕ) → Among (block_row id name b) old → ⊥) × (new ≡ old))

-- in a database whose index is not changed, the row with the number is removed if it is of the
-- name; if it is not, nothing is changed
abbrev pub TakesOutRow : Trees → Trees → ℤ → List ℕ → Type 0
TakesOutRow old new id name = (new name_tree ≡ old name_tree) × ClearsRow (old block_tree) (new block_tree) id name

-- the entry is removed from the index, and with it the row of the name, if there is one
abbrev pub TakesOutEntry : Trees → Trees → ℤ → List ℕ → Type 0
TakesOutEntry old new id name = (new name_tree ≡ remove_entry plain (name_entry name id) (old name_tree))
    × ClearsRow (old block_tree) (new block_tree) id name

-- the name is not listed, and nothing is changed; or its entry is removed
abbrev pub TakesOutName : Trees → Trees → List ℕ → Bool → Type 0
TakesOutName old new name false = FindsName (old name_tree) name None × (new ≡ old)
TakesOutName old new name true = (id : ℤ) × Among (name_entry name id) (old name_tree) × TakesOutEntry old new id name

-- ---- adding

-- the row with the number is of the name, and has these bytes; or no such row is there
abbrev pub IsRowIn : List Row → ℤ → List ℕ → List ℕ → Bool → Type 0
IsRowIn rows id name b true = ReadsBlockRow rows id name (Some b)
IsRowIn rows id name b false = Among (block_row id name b) rows → ⊥

-- a new row has the name and the bytes, and the name leads to it
abbrev pub WritesBlockRow : Trees → Trees → List ℕ → List ℕ → Type 0
WritesBlockRow old new name b = (id : ℤ) × IsFreeId (old block_tree) id
    × (new block_tree ≡ put_row (block_row id name b) (old block_tree))
    × (new name_tree ≡ insert_entry plain (name_entry name id) (old name_tree))

-- the outcome for a block whose name is not listed: it is new, or no number is left
abbrev pub Appends : Trees → Trees → List ℕ → List ℕ → Added → Type 0
Appends old new name b New = WritesBlockRow old new name b
Appends old new name b Stored = ⊥
Appends old new name b NoNumber = FreesId (old block_tree) None × (new ≡ old)

-- the outcome for a block whose name has an entry with this number: it is not in that row, and is
-- written anew; or it is, and nothing is changed; or no number is left
abbrev pub Renews : Trees → Trees → ℤ → List ℕ → List ℕ → Added → Type 0
Renews old new id name b New = (Among (block_row id name b) (old block_tree) → ⊥)
    × ((mid : Trees) × TakesOutEntry old mid id name × WritesBlockRow mid new name b)
Renews old new id name b Stored = ReadsBlockRow (old block_tree) id name (Some b) × (new ≡ old)
Renews old new id name b NoNumber = FreesId (old block_tree) None × (new ≡ old)

-- the outcome of storing a block
abbrev pub AddsBlockRow : Trees → Trees → List ℕ → List ℕ → Added → Type 0
AddsBlockRow old new name b added = (FindsName (old name_tree) name None × Appends old new name b added)
    ⊎ ((id : ℤ) × Among (name_entry name id) (old name_tree) × Renews old new id name b added)

-- the row or its entry is too long for a database
abbrev pub IsTooLong : (ℕ → ℕ) → List ℕ → List ℕ → Type 0
IsTooLong reals name b = ((id : ℤ) → IsStorableRow (reals block_tree) (block_row id name b) × IsStorable (reals name_tree) (name_entry name id)) → ⊥
