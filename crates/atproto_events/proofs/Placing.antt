-- Each entry of an opened tree is in the layer of its key.
use Rattle.std.proofs.Common.{inl, inr, ℕ, zero, suc, List, [], ◌∷◌, Option, None, Some, sym, subst}
use Rattle.ipld_tree.specs.Cid.{CidParts}
use Rattle.ipld_links.specs.Reaching.{Stored}
use Rattle.atproto_mst.specs.Nodes.{NodeRow, NodeParts, key_of_row}
use Rattle.atproto_mst.specs.InLayers.{first_layer}
use Rattle.atproto_events.specs.Pieces.{PieceParts, OpensLink, OpensRows, OpensNode, OpensBelow, OpensTree}
use Rattle.atproto_events.specs.Undone.{ArePlaced}
use Rattle.atproto_events.proofs.Undoing.{placed_joined}

module _ (F : CidParts → List PieceParts → Type 0) (f : (name : CidParts) (ps : List PieceParts) → F name ps → ArePlaced ps) where
  link_placed : (l : Option CidParts) (ps : List PieceParts) → OpensLink F l ps → ArePlaced ps
  link_placed None ps o = subst ArePlaced (sym o) tt
  link_placed (Some name) ps o = f name ps o

  rows_placed : (n : ℕ) (previous : List ℕ) (rs : List NodeRow) (ps : List PieceParts) → OpensRows F n previous rs ps → ArePlaced ps
  rows_placed n previous [] ps o = subst ArePlaced (sym o) tt
  rows_placed n previous (r ∷ rs) ps (below, more, link, rows, all, layer) =
      subst ArePlaced (sym all) (sym layer, placed_joined below more (link_placed r.after below link) (rows_placed n (key_of_row previous r) rs more rows))

  node_placed : (n : ℕ) (p : NodeParts) (ps : List PieceParts) → OpensNode F n p ps → ArePlaced ps
  node_placed n p ps (below, more, link, rows, all) =
      subst ArePlaced (sym all) (placed_joined below more (link_placed p.left below link) (rows_placed n [] p.rows more rows))

below_placed : (stored : Stored) (n : ℕ) (name : CidParts) (ps : List PieceParts) → OpensBelow stored n name ps → ArePlaced ps
below_placed stored zero name ps o = absurd o
below_placed stored (suc n) name ps (inl lone) = subst ArePlaced (sym lone.1) (tt, tt)
below_placed stored (suc n) name ps (inr (p, at, opened)) = node_placed (OpensBelow stored n) (below_placed stored n) n p ps opened

pub tree_placed : (stored : Stored) (root : CidParts) (ps : List PieceParts) → OpensTree stored root ps → ArePlaced ps
tree_placed stored root ps (p, at, opened) = node_placed (OpensBelow stored (first_layer p.rows)) (below_placed stored (first_layer p.rows)) (first_layer p.rows) p ps opened
