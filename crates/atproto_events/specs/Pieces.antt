-- A partly stored tree: its entries, and between them the subtrees that were not opened.
use Rattle.std.specs.Prelude.{◌≡◌, ◌⊎◌, ◌<◌, ℕ, zero, suc, max, List, [], ◌∷◌, ◌++◌, map, Option, None, Some, option_map, if◌then◌else◌, nat_lt}
use Rattle.std.specs.List.{AllByRecursion}
use Rattle.ipld_tree.specs.Cid.{CidParts}
use Rattle.ipld_links.specs.Reaching.{Stored}
use Rattle.atproto_mst.specs.Keys.{Entry, key_layer}
use Rattle.atproto_mst.specs.Trees.{leaves, subtree}
use Rattle.atproto_mst.specs.Nodes.{NodeRow, NodeParts, IsNodeAt, key_of_row}
use Rattle.atproto_mst.specs.InLayers.{first_layer}
use Rattle.atproto_events.specs.declared.pieces.Piece.{Piece}

-- An entry: the layer of its key, the key and its record. Or a subtree that was not opened: the
-- layer of its root, no key, and the root's name.
pub record PieceParts : Type 0 where
  pub layer : ℕ
  pub key : Option (List ℕ)
  pub cid : CidParts

abbrev pub piece_of : Piece → PieceParts
piece_of p = record { layer = p.layer; key = option_map (λ k. k.items) p.key; cid = p.cid }

abbrev pub pieces : List Piece → List PieceParts
pieces ps = map piece_of ps

-- the piece of an entry
abbrev pub entry_piece : List ℕ → CidParts → PieceParts
entry_piece key value = record { layer = key_layer key; key = Some key; cid = value }

-- the piece of a subtree that was not opened
abbrev pub subtree_piece : ℕ → CidParts → PieceParts
subtree_piece n name = record { layer = n; key = None; cid = name }

-- ---- what they stand for

-- an entry piece: that entry; a subtree piece: entries whose subtree has this layer and name
abbrev pub StandsFor : ℕ → CidParts → Option (List ℕ) → List Entry → Type 0
StandsFor n cid (Some key) es = (n ≡ key_layer key) × (es ≡ (key, cid) ∷ [])
StandsFor n cid None es = (subtree (suc n) (leaves es) ≡ Some cid)
    × AllByRecursion (λ e. e.layer < suc n) (leaves es)

-- the pieces stand for these entries, in order
abbrev pub Fills : List PieceParts → List Entry → Type 0
Fills [] es = es ≡ []
Fills (p ∷ ps) es = (first more : List Entry) × StandsFor p.layer p.cid p.key first × Fills ps more
    × (es ≡ first ++ more)

-- ---- layers

-- the pieces before the first that is not below the layer
abbrev pub lower_pieces : ℕ → List PieceParts → List PieceParts
lower_pieces n [] = []
lower_pieces n (p ∷ ps) = if nat_lt p.layer n then p ∷ lower_pieces n ps else []

-- the pieces from the first that is not below the layer
abbrev pub upper_pieces : ℕ → List PieceParts → List PieceParts
upper_pieces n [] = []
upper_pieces n (p ∷ ps) = if nat_lt p.layer n then upper_pieces n ps else p ∷ ps

-- the greatest layer of a piece
abbrev pub top_piece : List PieceParts → ℕ
top_piece [] = 0
top_piece (p ∷ ps) = max p.layer (top_piece ps)

-- ---- how a tree is opened

-- the pieces of a link, empty if there is no link
abbrev pub OpensLink : (CidParts → List PieceParts → Type 0) → Option CidParts → List PieceParts → Type 0
OpensLink F None ps = ps ≡ []
OpensLink F (Some name) ps = F name ps

-- the pieces of rows of layer n that follow a key
abbrev pub OpensRows : (CidParts → List PieceParts → Type 0) → ℕ → List ℕ → List NodeRow → List PieceParts → Type 0
OpensRows F n previous [] ps = ps ≡ []
OpensRows F n previous (r ∷ rs) ps = (below more : List PieceParts) × OpensLink F r.after below
    × OpensRows F n (key_of_row previous r) rs more
    × (ps ≡ record { layer = n; key = Some (key_of_row previous r); cid = r.value } ∷ (below ++ more))
    × (key_layer (key_of_row previous r) ≡ n)

-- the pieces of a node of layer n
abbrev pub OpensNode : (CidParts → List PieceParts → Type 0) → ℕ → NodeParts → List PieceParts → Type 0
OpensNode F n p ps = (below more : List PieceParts) × OpensLink F p.left below × OpensRows F n [] p.rows more
    × (ps ≡ below ++ more)

-- The pieces of a node right below layer n: one if it is not stored; otherwise those of its entries
-- and of the nodes right below it.
abbrev pub OpensBelow : Stored → ℕ → CidParts → List PieceParts → Type 0
OpensBelow stored zero name ps = ⊥
OpensBelow stored (suc n) name ps = ((stored name ≡ None) × (ps ≡ subtree_piece n name ∷ []))
    ⊎ ((p : NodeParts) × IsNodeAt stored name p × OpensNode (OpensBelow stored n) n p ps)

-- the pieces of the tree of this root
abbrev pub OpensTree : Stored → CidParts → List PieceParts → Type 0
OpensTree stored root ps = (p : NodeParts) × IsNodeAt stored root p
    × OpensNode (OpensBelow stored (first_layer p.rows)) (first_layer p.rows) p ps
