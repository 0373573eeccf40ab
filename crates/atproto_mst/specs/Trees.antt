-- The Merkle search tree of a repository (AT Protocol specification, repository).
use Rattle.std.specs.Prelude.{ℕ, zero, suc, max, pos, List, [], ◌∷◌, ◌++◌, drop, map, codes, Option, None, Some, if◌then◌else◌, ◌==◌, nat_lt}
use Rattle.ipld_tree.specs.Cid.{CidParts, cid_bytes}
use Rattle.ipld_tree.specs.Tree.{Tree, null, integer, bytes, list, mapping, link, no_entries, entry, items_of}
use Rattle.ipld_tree.specs.Spelling.{spelling}
use Rattle.ipld_links.specs.Names.{block_name}
use Rattle.files_car.specs.Car.{Section}
use Rattle.atproto_mst.specs.Keys.{Entry, key_layer}

-- an entry, with the layer of its key
pub record Leaf : Type 0 where
  pub layer : ℕ
  pub key : List ℕ
  pub value : CidParts

abbrev pub leaf_of : Entry → Leaf
leaf_of e = record { layer = key_layer e.0; key = e.0; value = e.1 }

-- the leaves before the first that is not below the layer
abbrev pub lower_run : ℕ → List Leaf → List Leaf
lower_run n [] = []
lower_run n (e ∷ es) = if nat_lt e.layer n then e ∷ lower_run n es else []

-- how many leading bytes two keys share
abbrev pub shared : List ℕ → List ℕ → ℕ
shared [] key = 0
shared (b ∷ bs) [] = 0
shared (b ∷ bs) (c ∷ cs) = if b == c then suc (shared bs cs) else 0

-- null, or a link to the node
abbrev pub link_tree : Option CidParts → Tree
link_tree None = null
link_tree (Some name) = link (cid_bytes name)

-- a node's entry: how many bytes the key shares with the one before it, the rest of the key, the
-- value, and the subtree between this key and the next
abbrev pub row_tree : ℕ → List ℕ → CidParts → Option CidParts → Tree
row_tree p k v t = mapping (entry (codes "k") (bytes k) (entry (codes "p") (integer (pos p))
    (entry (codes "t") (link_tree t) (entry (codes "v") (link (cid_bytes v)) no_entries))))

-- the entry of a leaf that follows this key
abbrev pub entry_tree : List ℕ → Leaf → Option CidParts → Tree
entry_tree previous e t = row_tree (shared previous e.key) (drop (shared previous e.key) e.key) e.value t

-- the entries of a node of layer n, one for each leaf of that layer; `sub` names the subtree over
-- the leaves between them
abbrev pub entry_trees : (List Leaf → Option CidParts) → ℕ → List ℕ → List Leaf → List Tree
entry_trees sub n previous [] = []
entry_trees sub n previous (e ∷ es) =
    if nat_lt e.layer n then entry_trees sub n previous es
    else entry_tree previous e (sub (lower_run n es)) ∷ entry_trees sub n e.key es

-- a node: the map of its entries and of the subtree before the first key
abbrev pub node_map : List Tree → Option CidParts → Tree
node_map e l = mapping (entry (codes "e") (list (items_of e)) (entry (codes "l") (link_tree l) no_entries))

-- the node of layer n over leaves of that layer and lower ones
abbrev pub node_over : (List Leaf → Option CidParts) → ℕ → List Leaf → Tree
node_over sub n es = node_map (entry_trees sub n [] es) (sub (lower_run n es))

-- The name of the subtree over leaves that are all below layer n: a node of the layer right below.
-- There is no subtree without leaves.
unfoldable pub subtree : ℕ → List Leaf → Option CidParts
subtree zero es = None
subtree (suc n) [] = None
subtree (suc n) (e ∷ es) = Some (block_name (spelling (node_over (subtree n) n (e ∷ es))))

-- the node of layer n
unfoldable pub node : ℕ → List Leaf → Tree
node n es = node_over (subtree n) n es

-- ---- the nodes of a tree, as sections: each after those below it

-- the nodes between and after the leaves of layer n
abbrev pub nodes_between : (List Leaf → List Section) → ℕ → List Leaf → List Section
nodes_between nodes n [] = []
nodes_between nodes n (e ∷ es) =
    if nat_lt e.layer n then nodes_between nodes n es
    else nodes (lower_run n es) ++ nodes_between nodes n es

-- a node's name and block
abbrev pub node_section : Tree → Section
node_section t = (block_name (spelling t), spelling t)

-- the nodes below a node of layer n, and then this one
abbrev pub nodes_over : (List Leaf → List Section) → Tree → ℕ → List Leaf → List Section
nodes_over nodes t n es = nodes (lower_run n es)
    ++ (nodes_between nodes n es ++ (node_section t ∷ []))

-- the nodes of the subtree over leaves that are all below layer n
unfoldable pub subtree_nodes : ℕ → List Leaf → List Section
subtree_nodes zero es = []
subtree_nodes (suc n) [] = []
subtree_nodes (suc n) (e ∷ es) = nodes_over (subtree_nodes n) (node n (e ∷ es)) n (e ∷ es)

-- the nodes of the tree whose root is the node of layer n
unfoldable pub nodes : ℕ → List Leaf → List Section
nodes n es = nodes_over (subtree_nodes n) (node n es) n es

-- ---- the tree of entries

-- the greatest layer of a leaf
abbrev pub top_layer : List Leaf → ℕ
top_layer [] = 0
top_layer (e ∷ es) = max e.layer (top_layer es)

abbrev pub leaves : List Entry → List Leaf
leaves entries = map leaf_of entries

-- the root's node
unfoldable pub mst : List Entry → Tree
mst entries = node (top_layer (leaves entries)) (leaves entries)

-- the root's name
abbrev pub root_of : List Entry → CidParts
root_of entries = block_name (spelling (mst entries))

-- all nodes of the tree
unfoldable pub nodes_of : List Entry → List Section
nodes_of entries = nodes (top_layer (leaves entries)) (leaves entries)
