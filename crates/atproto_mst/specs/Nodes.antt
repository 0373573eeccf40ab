-- Nodes as they are stored (AT Protocol specification, repository).
use Rattle.std.specs.Prelude.{◌≡◌, ℕ, List, ◌++◌, take, map, Option, None, Some, ⊤}
use Rattle.std.specs.List.{AllByRecursion}
use Rattle.ipld_tree.specs.Cid.{CidParts, AreCidParts}
use Rattle.ipld_tree.specs.Tree.{Tree}
use Rattle.ipld_tree.specs.Spelling.{IsSpelling}
use Rattle.ipld_links.specs.Names.{block_name}
use Rattle.ipld_links.specs.Reaching.{Stored}
use Rattle.atproto_mst.specs.Trees.{row_tree, node_map}
use Rattle.types_repository.specs.declared.repository.Entry.{Entry}
use Rattle.types_repository.specs.declared.repository.Node.{Node}

-- An entry of a node: how many bytes it shares with the key before it in the node, the rest of the
-- key, its record, and the subtree between this key and the next.
pub record NodeRow : Type 0 where
  pub shared : ℕ
  pub rest : List ℕ
  pub value : CidParts
  pub after : Option CidParts

-- a node: its entries, and the subtree before the first key
pub record NodeParts : Type 0 where
  pub left : Option CidParts
  pub rows : List NodeRow

abbrev pub tree_of_row : NodeRow → Tree
tree_of_row r = row_tree r.shared r.rest r.value r.after

abbrev pub tree_of_node : NodeParts → Tree
tree_of_node p = node_map (map tree_of_row p.rows) p.left

-- the link, if there is one, is a CID
abbrev pub IsCidIfAny : Option CidParts → Type 0
IsCidIfAny None = ⊤
IsCidIfAny (Some name) = AreCidParts name

-- the bytes are the block of the node
pub record IsNode (b : List ℕ) (p : NodeParts) : Type 0 where
  pub spelled : IsSpelling b (tree_of_node p)
  pub left : IsCidIfAny p.left
  pub rows : AllByRecursion (λ r. AreCidParts r.value × IsCidIfAny r.after) p.rows

-- the node's block is stored under its name
pub record IsNodeAt (stored : Stored) (name : CidParts) (p : NodeParts) : Type 0 where
  pub block : List ℕ
  pub is : stored name ≡ Some block
  pub named : name ≡ block_name block
  pub node : IsNode block p

-- the key of a row that follows this key
abbrev pub key_of_row : List ℕ → NodeRow → List ℕ
key_of_row previous r = take r.shared previous ++ r.rest

-- ---- as they are held

abbrev pub row_told : Entry → NodeRow
row_told e = record { shared = e.p; rest = e.k.0.items; value = e.v; after = e.t }

abbrev pub node_told : Node → NodeParts
node_told n = record { left = n.l; rows = map row_told n.e.items }
