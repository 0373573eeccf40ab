-- The root of the tree of any entries that pieces stand for, computed from the pieces alone.
use Rattle.std.specs.Prelude.{◌≡◌, ◌⊎◌, ◌<◌, ◌≤◌, ℕ, zero, suc, List, [], ◌∷◌, ◌++◌, Option, None, Some, ⊤}
use Rattle.std.specs.List.{AllByRecursion}
use Rattle.ipld_tree.specs.Cid.{CidParts}
use Rattle.ipld_tree.specs.Tree.{Tree}
use Rattle.ipld_tree.specs.Spelling.{spelling}
use Rattle.ipld_links.specs.Names.{block_name}
use Rattle.atproto_mst.specs.Trees.{leaf_of, entry_tree, node_map}
use Rattle.atproto_events.specs.Pieces.{PieceParts, subtree_piece, lower_pieces, top_piece}
use Rattle.atproto_events.specs.declared.error.UndoError.{UndoError}
use Rattle.atproto_events.specs.declared.error.UndoError.TheVariants as error

-- The rows of a node of layer n that follow a key: one for each piece of that layer, which must be
-- an entry; N names the subtree over the pieces between them.
abbrev pub NamesRows : (List PieceParts → Option CidParts → Type 0) → ℕ → List ℕ → List PieceParts → List Tree → Type 0
NamesRows N n previous [] ts = ts ≡ []
NamesRows N n previous (p ∷ ps) ts = ((p.layer < n) × NamesRows N n previous ps ts)
    ⊎ ((n ≤ p.layer) × ((k : List ℕ) × (after : Option CidParts) × (more : List Tree) × (p.key ≡ Some k)
    × N (lower_pieces n ps) after × NamesRows N n k ps more
    × (ts ≡ entry_tree previous (leaf_of (k, p.cid)) after ∷ more)))

-- the node of layer n
abbrev pub NamesOver : (List PieceParts → Option CidParts → Type 0) → ℕ → List PieceParts → Tree → Type 0
NamesOver N n ps t = (left : Option CidParts) × (ts : List Tree) × N (lower_pieces n ps) left
    × NamesRows N n [] ps ts × (t ≡ node_map ts left)

-- The subtree below layer n: absent, one that was not opened, or a node of the layer below.
abbrev pub NamesBelow : ℕ → List PieceParts → Option CidParts → Type 0
NamesBelow zero ps name = name ≡ None
NamesBelow (suc n) [] name = name ≡ None
NamesBelow (suc n) (p ∷ ps) name = ((p.layer ≡ n) × (p.key ≡ None) × (ps ≡ []) × (name ≡ Some p.cid))
    ⊎ ((t : Tree) × NamesOver (NamesBelow n) n (p ∷ ps) t × (name ≡ Some (block_name (spelling t))))

-- the name of the root, a node of the layer of the highest piece
abbrev pub NamesRoot : List PieceParts → CidParts → Type 0
NamesRoot ps root = (t : Tree) × NamesOver (NamesBelow (top_piece ps)) (top_piece ps) ps t
    × (root ≡ block_name (spelling t))

-- ---- why the root is not named

-- all pieces are below layer n
abbrev pub AreLower : ℕ → List PieceParts → Type 0
AreLower n ps = AllByRecursion (λ p. p.layer < n) ps

-- the first of the pieces is not above layer n
abbrev pub BeginsWithin : ℕ → List PieceParts → Type 0
BeginsWithin n [] = ⊥
BeginsWithin n (p ∷ ps) = p.layer ≤ n

-- the last of the pieces is not above layer n
abbrev pub EndsWithin : ℕ → List PieceParts → Type 0
EndsWithin n [] = ⊥
EndsWithin n (p ∷ []) = p.layer ≤ n
EndsWithin n (p ∷ (q ∷ ps)) = EndsWithin n (q ∷ ps)

-- The root of a subtree that was not opened would not be a node of the tree that the pieces make: a
-- piece beside it is not above it, and so belongs in the same node or in one below.
pub record HidesNode (name : CidParts) (ps : List PieceParts) : Type 0 where
  pub front : List PieceParts
  pub layer : ℕ
  pub rest : List PieceParts
  pub is : ps ≡ front ++ (subtree_piece layer name ∷ rest)
  pub beside : EndsWithin layer front ⊎ BeginsWithin layer rest

-- This includes a subtree that is the only piece: it is not known whether its root has an entry.
abbrev pub HidesRoot : CidParts → List PieceParts → Type 0
HidesRoot name ps = HidesNode name ps ⊎ ((n : ℕ) × (ps ≡ subtree_piece n name ∷ []))

-- out of memory, or the content of a subtree is needed
abbrev pub NodeFault : List PieceParts → UndoError → Type 0
NodeFault ps error.OutOfMemory = ⊤
NodeFault ps (error.MissingNode name) = HidesNode name ps
NodeFault ps _ = ⊥

-- a node fault, or a subtree of layer n comes first
abbrev pub FirstOrFault : ℕ → List PieceParts → UndoError → Type 0
FirstOrFault n ps e = NodeFault ps e ⊎ ((name : CidParts) × (rest : List PieceParts)
    × (e ≡ error.MissingNode name) × (ps ≡ subtree_piece n name ∷ rest))

-- a node fault, or a subtree of layer n is the only piece
abbrev pub AloneOrFault : ℕ → List PieceParts → UndoError → Type 0
AloneOrFault n ps e = NodeFault ps e
    ⊎ ((name : CidParts) × (e ≡ error.MissingNode name) × (ps ≡ subtree_piece n name ∷ []))

abbrev pub RootFault : List PieceParts → UndoError → Type 0
RootFault ps error.OutOfMemory = ⊤
RootFault ps (error.MissingNode name) = HidesRoot name ps
RootFault ps _ = ⊥
