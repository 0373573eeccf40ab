-- Why a tree is not opened.
use Rattle.std.specs.Prelude.{◌≡◌, ◌≢◌, ◌⊎◌, ◌<◌, ℕ, zero, suc, Bool, true, false, List, [], ◌∷◌, ◌++◌, length, Option, None, Some, is_some, if◌then◌else◌}
use Rattle.std.specs.Ordering.{nat_cmp, is_lt}
use Rattle.std.specs.Cmp.Lexicographic.{slice_cmp}
use Rattle.ipld_tree.specs.Cid.{CidParts}
use Rattle.ipld_links.specs.Names.{block_name}
use Rattle.ipld_links.specs.Reaching.{Stored}
use Rattle.ipld_links.specs.Sets.{Among, members}
use Rattle.ipld_links.specs.declared.cid_set.CidSet.{CidSet}
use Rattle.atproto_mst.specs.Keys.{IsKey, key_layer}
use Rattle.atproto_mst.specs.Nodes.{NodeRow, NodeParts, IsNode, IsNodeAt, key_of_row}
use Rattle.atproto_mst.specs.InLayers.{IsEmpty, first_layer}
use Rattle.atproto_mst.specs.Stops.{IsStoredNamed}
use Rattle.atproto_events.specs.Pieces.{PieceParts, OpensLink, OpensBelow}
use Rattle.atproto_events.specs.declared.error.UndoError.{UndoError}
use Rattle.atproto_events.specs.declared.error.UndoError.TheVariants as error

-- What is stored under the name is not read: out of memory, the bytes do not match the name, or
-- they are not a node.
abbrev pub UnreadNode : Stored → CidParts → UndoError → Type 0
UnreadNode stored name error.OutOfMemory = IsStoredNamed stored name
UnreadNode stored name (error.OtherBytes other) = (other ≡ name)
    × ((b : List ℕ) × (stored name ≡ Some b) × (name ≢ block_name b))
UnreadNode stored name (error.NoNode other) = (other ≡ name)
    × ((b : List ℕ) × (stored name ≡ Some b) × (name ≡ block_name b) × ((p : NodeParts) → ¬ IsNode b p))
UnreadNode stored name _ = ⊥

-- ---- keys and subtrees before others

-- the key of the last entry, if there is one
abbrev pub last_key : List PieceParts → Option (List ℕ)
last_key [] = None
last_key (p ∷ ps) = if is_some (last_key ps) then last_key ps else p.key

-- the key comes after the other key, if there is one
abbrev pub comes_after : List ℕ → Option (List ℕ) → Bool
comes_after key None = true
comes_after key (Some other) = is_lt (slice_cmp nat_cmp other key)

-- one of the pieces is the subtree of this name, not opened
abbrev pub HoldsSubtree : CidParts → List PieceParts → Type 0
HoldsSubtree name [] = ⊥
HoldsSubtree name (p ∷ ps) = ((p.key ≡ None) × (p.cid ≡ name)) ⊎ HoldsSubtree name ps

-- each CID of the set names a subtree among the pieces
abbrev pub AreHeld : CidSet → List PieceParts → Type 0
AreHeld lost ps = (q : CidParts) → Among q (members lost) → HoldsSubtree q ps

-- ---- why the walk stops, after the pieces that it has

-- A row does not belong in a node of layer n: it shares more bytes than the key before it has, its
-- key is not valid or is of another layer, or its key does not come after the last key.
abbrev pub RowUnfit : ℕ → List PieceParts → List ℕ → NodeRow → Type 0
RowUnfit n before previous r = (length previous < r.shared) ⊎ ((¬ IsKey (key_of_row previous r))
    ⊎ ((key_layer (key_of_row previous r) ≢ n) ⊎ (comes_after (key_of_row previous r) (last_key before) ≡ false)))

-- why opening a link stops: a fault in the subtree under it
abbrev pub LinkStops : (List PieceParts → CidParts → UndoError → Type 0) → List PieceParts → Option CidParts → UndoError → Type 0
LinkStops S before None e = ⊥
LinkStops S before (Some name) e = S before name e

-- at a row; else in the subtree after it; else at a later row
abbrev pub RowsStop : (CidParts → List PieceParts → Type 0) → (List PieceParts → CidParts → UndoError → Type 0)
    → ℕ → List PieceParts → List ℕ → List NodeRow → UndoError → Type 0
RowsStop F S n before previous [] e = ⊥
RowsStop F S n before previous (r ∷ rs) e = ((e ≡ error.OtherTree) × RowUnfit n before previous r)
    ⊎ (LinkStops S (before ++ (record { layer = n; key = Some (key_of_row previous r); cid = r.value } ∷ [])) r.after e
    ⊎ ((below : List PieceParts) × OpensLink F r.after below
    × RowsStop F S n (before ++ (record { layer = n; key = Some (key_of_row previous r); cid = r.value } ∷ below))
    (key_of_row previous r) rs e))

-- in the subtree before the first key; else at a row
abbrev pub NodeStops : (CidParts → List PieceParts → Type 0) → (List PieceParts → CidParts → UndoError → Type 0)
    → ℕ → List PieceParts → NodeParts → UndoError → Type 0
NodeStops F S n before p e = LinkStops S before p.left e
    ⊎ ((below : List PieceParts) × OpensLink F p.left below × RowsStop F S n (before ++ below) [] p.rows e)

-- Right below layer n: there is no node below layer 0; the node is not read; it is not stored, and
-- was met before; it is empty; or a fault in it.
abbrev pub StopsBelow : Stored → ℕ → List PieceParts → CidParts → UndoError → Type 0
StopsBelow stored zero before name e = e ≡ error.OtherTree
StopsBelow stored (suc n) before name e = UnreadNode stored name e
    ⊎ (((e ≡ error.OtherTree) × (stored name ≡ None) × HoldsSubtree name before)
    ⊎ ((p : NodeParts) × IsNodeAt stored name p × (((e ≡ error.OtherTree) × IsEmpty p)
    ⊎ NodeStops (OpensBelow stored n) (StopsBelow stored n) n before p e)))

-- The root is missing, or not read; or out of memory below it, or a fault of the walk from it.
abbrev pub TreeFault : Stored → CidParts → UndoError → Type 0
TreeFault stored root e = ((e ≡ error.MissingNode root) × (stored root ≡ None)) ⊎ (UnreadNode stored root e
    ⊎ ((p : NodeParts) × IsNodeAt stored root p × ((e ≡ error.OutOfMemory)
    ⊎ NodeStops (OpensBelow stored (first_layer p.rows)) (StopsBelow stored (first_layer p.rows))
    (first_layer p.rows) [] p e)))
