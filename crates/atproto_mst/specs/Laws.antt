-- What holds for all trees.
use Rattle.std.specs.Prelude.{◌≡◌, ◌≢◌, ◌⊎◌, ◌↔◌, ℕ, List, Option, None, Some}
use Rattle.ipld_tree.specs.Cid.{CidParts}
use Rattle.ipld_links.specs.Collisions.{Collides}
use Rattle.ipld_links.specs.Sets.{Among}
use Rattle.ipld_links.specs.Reaching.{Stored}
use Rattle.atproto_mst.specs.Keys.{Entry, IsKey, Rise, HaveRisingKeys}
use Rattle.atproto_mst.specs.Trees.{root_of}
use Rattle.atproto_mst.specs.Entries.{IsMst}
use Rattle.atproto_mst.specs.Walks.{most_layers}
use Rattle.atproto_mst.specs.Changes.{set_entry, unset_entry, Changed, AreChanges}
use Rattle.atproto_mst.specs.Finding.{lookup, FindsRecord, FindStops, IsWay}
use Rattle.atproto_mst.specs.declared.error.MstError.{MstError}

-- equal entries have equal roots
abbrev pub OneRoot : Type 0
OneRoot = (es others : List Entry) → es ≡ others → root_of es ≡ root_of others

-- A root determines its entries: if two stores have its tree, they have the same entries, or two
-- different byte strings have the same SHA-256.
abbrev pub RootBinds : Type 0
RootBinds = (stored others : Stored) (root : CidParts) (es fs : List Entry)
    → IsMst stored root es → IsMst others root fs → (es ≡ fs) ⊎ Collides

-- A search over the nodes of any store finds what the tree of that root has, or that it has
-- nothing, wherever it is stored whole; or two different byte strings have the same SHA-256.
abbrev pub RecordsBind : Type 0
RecordsBind = (stored others : Stored) (root : CidParts) (key : List ℕ) (es : List Entry)
    (found : Option CidParts) → FindsRecord most_layers stored key root found → IsMst others root es
    → (found ≡ lookup key es) ⊎ Collides

-- ---- what the nodes on the way of a key decide

-- under each of the names both stores have the same bytes, or neither has any
abbrev pub AreSameUnder : List CidParts → Stored → Stored → Type 0
AreSameUnder names stored other = (q : CidParts) → Among q names → stored q ≡ other q

-- A store that agrees with another on the nodes on the way to a key gives the same answers.
abbrev pub WaysDecideRecords : Type 0
WaysDecideRecords = (stored other : Stored) (root : CidParts) (key : List ℕ) (names : List CidParts)
    → IsWay most_layers stored key root names → AreSameUnder names stored other
    → (found : Option CidParts)
    → FindsRecord most_layers stored key root found ↔ FindsRecord most_layers other key root found

-- It gives an answer, and no fault stops the search.
abbrev pub WaysLead : Type 0
WaysLead = (stored other : Stored) (root : CidParts) (key : List ℕ) (names : List CidParts)
    → IsWay most_layers stored key root names → AreSameUnder names stored other
    → ((found : Option CidParts) × FindsRecord most_layers other key root found)
    × ((e : MstError) → ¬ FindStops most_layers other key root e)

-- ---- changes

-- A key that is set has the new record, and every other key keeps its own. Rising keys still rise.
pub record SetsOne : Type 0 where
  pub this : (key : List ℕ) (value : CidParts) (es : List Entry) → lookup key (set_entry key value es) ≡ Some value
  pub others : (key k : List ℕ) (value : CidParts) (es : List Entry) → k ≢ key
      → lookup k (set_entry key value es) ≡ lookup k es
  pub in_order : (key : List ℕ) (value : CidParts) (es : List Entry) → IsKey key → HaveRisingKeys es
      → HaveRisingKeys (set_entry key value es)

-- A key that is removed has no record, and every other key keeps its own. Rising keys still rise.
pub record UnsetsOne : Type 0 where
  pub this : (key : List ℕ) (es : List Entry) → Rise es → lookup key (unset_entry key es) ≡ None
  pub others : (key k : List ℕ) (es : List Entry) → k ≢ key → lookup k (unset_entry key es) ≡ lookup k es
  pub in_order : (key : List ℕ) (es : List Entry) → HaveRisingKeys es → HaveRisingKeys (unset_entry key es)

-- Two lists of entries have one list of changes.
abbrev pub OneDiff : Type 0
OneDiff = (old new : List Entry) (cs ds : List Changed) → AreChanges old new cs → AreChanges old new ds → cs ≡ ds
