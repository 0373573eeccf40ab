-- The entries of a stored tree, in the order of a walk from its root (AT Protocol specification,
-- repository). Each link leads to a subtree with an entry: only a root may be empty. Layers and the
-- order of keys are not considered.
use Rattle.std.specs.Prelude.{◌≡◌, ◌≢◌, ℕ, zero, suc, ◌≤◌, List, [], ◌∷◌, ◌++◌, length, Option, None, Some}
use Rattle.ipld_tree.specs.Cid.{CidParts}
use Rattle.ipld_links.specs.Reaching.{Stored}
use Rattle.atproto_mst.specs.Keys.{Entry}
use Rattle.atproto_mst.specs.Nodes.{NodeRow, NodeParts, IsNodeAt, key_of_row}

-- the entries of the subtree under a link, at least one; without a link, the empty list
abbrev pub WalksLink : (CidParts → List Entry → Type 0) → Option CidParts → List Entry → Type 0
WalksLink W None es = es ≡ []
WalksLink W (Some name) es = W name es × (es ≢ [])

-- the entries of these rows after a key, and of the subtrees after them
abbrev pub WalksRows : (CidParts → List Entry → Type 0) → List ℕ → List NodeRow → List Entry → Type 0
WalksRows W previous [] es = es ≡ []
WalksRows W previous (r ∷ rs) es = (r.shared ≤ length previous)
    × ((below more : List Entry) × WalksLink W r.after below × WalksRows W (key_of_row previous r) rs more
    × (es ≡ (key_of_row previous r, r.value) ∷ (below ++ more)))

-- the entries of the subtree before the first key, and of the rows
abbrev pub WalksNode : (CidParts → List Entry → Type 0) → NodeParts → List Entry → Type 0
WalksNode W p es = (below more : List Entry) × WalksLink W p.left below × WalksRows W [] p.rows more
    × (es ≡ below ++ more)

-- the entries of the tree of this root, over at most the given number of nodes below each other
abbrev pub WalksTree : ℕ → Stored → CidParts → List Entry → Type 0
WalksTree zero stored name es = ⊥
WalksTree (suc m) stored name es = (p : NodeParts) × IsNodeAt stored name p × WalksNode (WalksTree m stored) p es

-- the greatest number of nodes below each other: one for each of the layers 0 to 128
abbrev pub most_layers : ℕ
most_layers = 129
