-- Nodes in their layers: what makes a stored tree that of its entries, said of each node alone (AT
-- Protocol specification, repository).
use Rattle.std.specs.Prelude.{◌≡◌, ℕ, zero, suc, List, [], ◌∷◌, Option, None, Some, ⊤}
use Rattle.ipld_tree.specs.Cid.{CidParts}
use Rattle.ipld_links.specs.Reaching.{Stored}
use Rattle.atproto_mst.specs.Keys.{key_layer}
use Rattle.atproto_mst.specs.Trees.{shared}
use Rattle.atproto_mst.specs.Nodes.{NodeRow, NodeParts, IsNodeAt, key_of_row}

-- the key is of layer n, and the row leaves out all bytes that it shares with the key before it in
-- its node
abbrev pub IsLayerRow : ℕ → List ℕ → NodeRow → Type 0
IsLayerRow n previous r = (key_layer (key_of_row previous r) ≡ n)
    × (r.shared ≡ shared previous (key_of_row previous r))

-- F holds of the node under the link, if there is one
abbrev pub IfLinked : (CidParts → Type 0) → Option CidParts → Type 0
IfLinked F None = ⊤
IfLinked F (Some name) = F name

-- rows of layer n after a key, if F holds of the nodes under their links
abbrev pub AreRowsOf : (CidParts → Type 0) → ℕ → List ℕ → List NodeRow → Type 0
AreRowsOf F n previous [] = ⊤
AreRowsOf F n previous (r ∷ rs) = IsLayerRow n previous r × IfLinked F r.after
    × AreRowsOf F n (key_of_row previous r) rs

-- a node of layer n, if F holds of the nodes under its links
abbrev pub IsOfLayer : (CidParts → Type 0) → ℕ → NodeParts → Type 0
IsOfLayer F n p = IfLinked F p.left × AreRowsOf F n [] p.rows

-- the node has no key, and no subtree
abbrev pub IsEmpty : NodeParts → Type 0
IsEmpty p = (p.rows ≡ []) × (p.left ≡ None)

-- A node right below one of layer n, not empty, with the nodes below it in their layers. There is
-- no node below layer 0.
abbrev pub IsRightBelow : Stored → ℕ → CidParts → Type 0
IsRightBelow stored zero name = ⊥
IsRightBelow stored (suc n) name = (p : NodeParts) × IsNodeAt stored name p × (¬ IsEmpty p)
    × IsOfLayer (IsRightBelow stored n) n p

-- the layer of a root's first key, or 0 if it has no rows
abbrev pub first_layer : List NodeRow → ℕ
first_layer [] = 0
first_layer (r ∷ rs) = key_layer r.rest
