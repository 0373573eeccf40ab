-- Why a walk from a root stops: the first fault on its way.
use Rattle.std.specs.Prelude.{◌≡◌, ◌≢◌, ◌⊎◌, ℕ, zero, suc, ◌≤◌, ◌<◌, List, [], ◌∷◌, length, Option, None, Some}
use Rattle.std.specs.declared.cmp.Ordering.TheVariants.{Less}
use Rattle.std.specs.Ordering.{nat_cmp}
use Rattle.std.specs.Cmp.Lexicographic.{slice_cmp}
use Rattle.ipld_tree.specs.Cid.{CidParts}
use Rattle.ipld_links.specs.Names.{block_name}
use Rattle.ipld_links.specs.Reaching.{Stored}
use Rattle.atproto_mst.specs.Keys.{Entry, IsKey, HaveKeys, ComesBefore, Rise, AreMstEntries}
use Rattle.atproto_mst.specs.Entries.{IsMst}
use Rattle.atproto_mst.specs.Nodes.{NodeRow, NodeParts, IsNode, IsNodeAt, key_of_row}
use Rattle.atproto_mst.specs.Walks.{WalksLink, WalksTree, most_layers}
use Rattle.atproto_mst.specs.declared.error.MstError.{MstError}
use Rattle.atproto_mst.specs.declared.error.MstError.TheVariants as error

-- bytes are stored under the name, and it is their name
abbrev pub IsStoredNamed : Stored → CidParts → Type 0
IsStoredNamed stored name = (b : List ℕ) × (stored name ≡ Some b) × (name ≡ block_name b)

-- why there is no node under this name
abbrev pub NodeFault : Stored → CidParts → MstError → Type 0
NodeFault stored name (error.MissingNode lost) = (lost ≡ name) × (stored name ≡ None)
NodeFault stored name (error.OtherBytes other) = (other ≡ name)
    × ((b : List ℕ) × (stored name ≡ Some b) × (name ≢ block_name b))
NodeFault stored name (error.NoNode other) = (other ≡ name)
    × ((b : List ℕ) × (stored name ≡ Some b) × (name ≡ block_name b) × ((p : NodeParts) → ¬ IsNode b p))
NodeFault stored name _ = ⊥

-- what is wrong with a row that follows `previous` in its node, and `before` in the tree
abbrev pub RowFault : List ℕ → List ℕ → NodeRow → MstError → Type 0
RowFault previous before r error.KeyFront = length previous < r.shared
RowFault previous before r error.KeyLength = (r.shared ≤ length previous)
    × ¬ IsKey (key_of_row previous r)
RowFault previous before r error.KeyOrder = (r.shared ≤ length previous)
    × IsKey (key_of_row previous r) × (slice_cmp nat_cmp before (key_of_row previous r) ≢ Less)
RowFault previous before r _ = ⊥

-- the row has no fault
pub record IsRow (previous before : List ℕ) (r : NodeRow) : Type 0 where
  pub shares : r.shared ≤ length previous
  pub is_key : IsKey (key_of_row previous r)
  pub following : slice_cmp nat_cmp before (key_of_row previous r) ≡ Less

-- the keys are valid, rise, and come after this one
pub record ComeAfter (before : List ℕ) (es : List Entry) : Type 0 where
  pub keys : HaveKeys es
  pub rise : Rise es
  pub following : ComesBefore before es

-- the key of the last entry, or this key if there are no entries
abbrev pub last_entry_key : List ℕ → List Entry → List ℕ
last_entry_key before [] = before
last_entry_key before (e ∷ es) = last_entry_key e.0 es

-- ---- the walk

-- In the subtree under a link; or that subtree has no entry.
abbrev pub StopsAfter : (CidParts → List Entry → Type 0) → (List ℕ → CidParts → MstError → Type 0)
    → List ℕ → Option CidParts → MstError → Type 0
StopsAfter W S before None e = ⊥
StopsAfter W S before (Some name) e = S before name e ⊎ ((e ≡ error.OtherTree) × W name [])

-- At a row; else in the subtree after it; else at a later row.
abbrev pub StopsInRows : (CidParts → List Entry → Type 0) → (List ℕ → CidParts → MstError → Type 0)
    → List ℕ → List ℕ → List NodeRow → MstError → Type 0
StopsInRows W S before previous [] e = ⊥
StopsInRows W S before previous (r ∷ rs) e = RowFault previous before r e
    ⊎ (IsRow previous before r × (StopsAfter W S (key_of_row previous r) r.after e
    ⊎ ((below : List Entry) × WalksLink W r.after below × ComeAfter (key_of_row previous r) below
    × StopsInRows W S (last_entry_key (key_of_row previous r) below) (key_of_row previous r) rs e)))

-- In the subtree before the first key; else at a row.
abbrev pub StopsInNode : (CidParts → List Entry → Type 0) → (List ℕ → CidParts → MstError → Type 0)
    → List ℕ → NodeParts → MstError → Type 0
StopsInNode W S before p e = StopsAfter W S before p.left e
    ⊎ ((below : List Entry) × WalksLink W p.left below × ComeAfter before below
    × StopsInRows W S (last_entry_key before below) [] p.rows e)

-- From this root, after this key, over at most the given number of nodes below each other.
abbrev pub StopsWalk : ℕ → Stored → List ℕ → CidParts → MstError → Type 0
StopsWalk zero stored before name e = e ≡ error.TooDeep name
StopsWalk (suc m) stored before name e = NodeFault stored name e
    ⊎ ((p : NodeParts) × IsNodeAt stored name p × StopsInNode (WalksTree m stored) (StopsWalk m stored) before p e)

-- ---- why a tree is not read

-- Out of memory, if the root is stored; or the first fault of the walk; or the walk meets no fault,
-- but the stored nodes are not those of the tree of its entries.
abbrev pub MstRefused : Stored → CidParts → MstError → Type 0
MstRefused stored root error.OutOfMemory = IsStoredNamed stored root
MstRefused stored root error.OtherTree = StopsWalk most_layers stored [] root error.OtherTree
    ⊎ ((es : List Entry) × WalksTree most_layers stored root es × AreMstEntries es × ¬ IsMst stored root es)
MstRefused stored root e = StopsWalk most_layers stored [] root e

-- a refused tree has one reason, out of memory aside
abbrev pub OneReason : Type 0
OneReason = (stored : Stored) (root : CidParts) (e f : MstError) → MstRefused stored root e
    → MstRefused stored root f → (e ≡ error.OutOfMemory) ⊎ ((f ≡ error.OutOfMemory) ⊎ (e ≡ f))
