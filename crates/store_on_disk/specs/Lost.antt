-- The links that lead to no block of the store.
use Rattle.std.specs.Prelude.{◌≡◌, ◌↔◌, ◌⊎◌, ℕ, List, Option, None, Some, Vec, Result, IfOk}
use Rattle.std.specs.List.Sorted.{IsStrictlySortedBy}
use Rattle.std.specs.BTreeSet.{BTreeSet}
use Rattle.std.specs.declared.alloc.Global.{Global}
use Rattle.sqlite_trees.specs.View.{View}
use Rattle.sqlite_trees.specs.declared.store.Store.{Ghosts}
use Rattle.ipld_tree.specs.Cid.{CidParts, AreCidParts, cid_cmp}
use Rattle.dagcbor_items.specs.Walks.{forms}
use Rattle.ipld_links.specs.Blocks.{HasLinks, IsReadCodec}
use Rattle.ipld_links.specs.Sets.{Among}
use Rattle.ipld_links.specs.Within.{IsInlineForm, IsReached, IsReachedName}
use Rattle.store_rows.specs.Rows.{name_tree, IsListed}
use Rattle.store_on_disk.specs.Stored.{IsNext, GivesNextName, ListsName, Holds, HoldsOnly}
use Rattle.store_on_disk.specs.Trees.{Place, StopsAt}
use Rattle.store_on_disk.specs.declared.error.StoreRefusal.{StoreRefusal}

-- these bytes are the binary form of a link in a stored block of DAG-CBOR or DAG-PB, or in a block
-- that such a link holds inline
abbrev pub IsLinked : List ℕ → View → Type 0
IsLinked form v = (c : CidParts) × (b : List ℕ) × (links : List (List ℕ))
    × AreCidParts c × Holds v c b × HasLinks c.codec b links × IsReached form links

-- nothing is listed under the name, nor does it hold a block inline
abbrev pub NamesNoneListed : List ℕ → View → Type 0
NamesNoneListed form v = ¬ IsInlineForm form × ¬ IsListed (v.trees name_tree) form

-- the links in stored blocks of these codecs under which nothing is listed, each once, in order
abbrev pub ListsLostLinks : View → List CidParts → Type 0
ListsLostLinks v links = IsStrictlySortedBy cid_cmp links
    × ((form : List ℕ) → Among form (forms links) ↔ (IsLinked form v × NamesNoneListed form v))

-- the names that are listed
abbrev pub AtListed : Place
AtListed v n IsSo = IsSo × ListsName v n

-- the block under a listed name is damaged, or its links are not known; or the store failed
abbrev pub LostRefused : {S : Type 0} → Ghosts S → S → S → StoreRefusal → Type 0
LostRefused g = StopsAt g AtListed

-- the set keeps what it had, and gains only such names
abbrev pub GrowsByLost : (CidParts → Type 0) → BTreeSet CidParts → BTreeSet CidParts → Type 0
GrowsByLost IsSuch old new = (q : CidParts) → (Among q old.keys → Among q new.keys)
    × (Among q new.keys → Among q old.keys ⊎ IsSuch q)

-- links in the block lead to the name
abbrev pub IsReachedIn : ℕ → List ℕ → CidParts → Type 0
IsReachedIn codec b q = (links : List (List ℕ)) × HasLinks codec b links × IsReachedName q links

-- ---- steps

-- the name is put into the set if it is not listed
abbrev pub AddsUnlisted : View → CidParts → BTreeSet CidParts → BTreeSet CidParts → Type 0
AddsUnlisted v name old new = (q : CidParts) → Among q new.keys
    ↔ (Among q old.keys ⊎ ((q ≡ name) × ¬ ListsName v q))

-- those of the names that are not listed are put into the set
abbrev pub AddsNames : View → List CidParts → BTreeSet CidParts → BTreeSet CidParts → Type 0
AddsNames v names old new = (q : CidParts) → Among q new.keys
    ↔ (Among q old.keys ⊎ (Among q names × ¬ ListsName v q))

-- the names that the links in the block lead to, and that are not listed, are put into the set
abbrev pub AddsLost : View → ℕ → List ℕ → BTreeSet CidParts → BTreeSet CidParts → Type 0
AddsLost v codec b old new = (q : CidParts) → Among q new.keys
    ↔ (Among q old.keys ⊎ (IsReachedIn codec b q × ¬ ListsName v q))

-- if the next block has such a codec, the names that its links lead to, and that are not listed,
-- are put into the set
abbrev pub AddsOf : View → CidParts → List ℕ → BTreeSet CidParts → BTreeSet CidParts → Type 0
AddsOf v c b old new = (IsReadCodec c.codec × AddsLost v c.codec b old new)
    ⊎ ((¬ IsReadCodec c.codec) × (new ≡ old))

-- such names of the block after the last name are put into the set; or no block follows
abbrev pub AddsLostLinks : View → Option CidParts → BTreeSet CidParts
    → Option CidParts → BTreeSet CidParts → Type 0
AddsLostLinks v last old None new = GivesNextName v last None × (new ≡ old)
AddsLostLinks v last old (Some c) new = IsNext (v.trees name_tree) last c
    × ((b : List ℕ) × HoldsOnly v c b × AddsOf v c b old new)

-- the CIDs of a set are listed, each once, in their order
abbrev pub ListsKeys : {E : Type 0} → List CidParts → Result (Vec CidParts Global) E → Type 0
ListsKeys keys result = IfOk result (λ v. IsStrictlySortedBy cid_cmp v.items × (v.items ≡ keys))
