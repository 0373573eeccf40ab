-- A tree that is stored is one that a walk from its root finds.
use Rattle.std.proofs.Common.{◌≡◌, ℕ, zero, suc, ◌+◌, ◌-◌, ◌^◌, ◌<◌, ◌≤◌, Bool, true, false, List, [], ◌∷◌, ◌++◌, map, length, Option, None, Some, refl, sym, ap, arith, subst, ltb-true}
use Rattle.std.specs.Prelude.{if◌then◌else◌, nat_lt}
use Rattle.std.specs.List.{AllByRecursion}
use Rattle.ipld_tree.specs.Cid.{CidParts}
use Rattle.ipld_tree.specs.Spelling.{spelling}
use Rattle.files_car.specs.Car.{Section}
use Rattle.ipld_links.specs.Names.{block_name}
use Rattle.ipld_links.specs.Reaching.{Stored}
use Rattle.atproto_mst.specs.Keys.{Entry, HaveKeys, HaveCids}
use Rattle.atproto_mst.specs.Trees.{Leaf, leaves, lower_run, node_section, nodes_between, subtree, node, subtree_nodes, nodes, top_layer, mst, nodes_of, root_of}
use Rattle.atproto_mst.specs.Placed.{upper_rest}
use Rattle.atproto_mst.specs.Entries.{AreStored, IsMst}
use Rattle.atproto_mst.specs.Nodes.{NodeRow, key_of_row}
use Rattle.atproto_mst.specs.Walks.{WalksLink, WalksRows, WalksTree, most_layers}
use Rattle.atproto_mst.proofs.Parts.{row_at, rows_over, parts_over, shared_within_first, key_again, IsLeaf, node_is_node}
use Rattle.atproto_mst.proofs.Layers.{top_within}

-- ---- leaves, in runs

-- the entries of leaves
abbrev pub entries_under : List Leaf → List Entry
entries_under es = map (λ e. (e.key, e.value)) es

abbrev pub AreBelow : ℕ → List Leaf → Type 0
AreBelow n es = AllByRecursion (λ e. e.layer < n) es

-- what is known of leaves
abbrev pub AreLeaves : List Leaf → Type 0
AreLeaves es = AllByRecursion IsLeaf es × (length es < 2 ^ 64)

split_by : (n : ℕ) (e : Leaf) (es : List Leaf) (b : Bool) → entries_under es ≡ entries_under (lower_run n es) ++ entries_under (upper_rest n es)
    → entries_under (e ∷ es) ≡ entries_under (if b then e ∷ lower_run n es else []) ++ entries_under (if b then upper_rest n es else e ∷ es)
split_by n e es true h = ap (λ xs. (e.key, e.value) ∷ xs) h
split_by n e es false h = refl

-- the lower run, and what follows it
runs_split : (n : ℕ) (es : List Leaf) → entries_under es ≡ entries_under (lower_run n es) ++ entries_under (upper_rest n es)
runs_split n [] = refl
runs_split n (e ∷ es) = split_by n e es (nat_lt e.layer n) (runs_split n es)

lower_leaves_by : (n : ℕ) (e : Leaf) (es : List Leaf) (b : Bool) → IsLeaf e → AllByRecursion IsLeaf (lower_run n es) → AllByRecursion IsLeaf (if b then e ∷ lower_run n es else [])
lower_leaves_by n e es true h k = (h, k)
lower_leaves_by n e es false h k = tt

lower_leaves : (n : ℕ) (es : List Leaf) → AllByRecursion IsLeaf es → AllByRecursion IsLeaf (lower_run n es)
lower_leaves n [] h = tt
lower_leaves n (e ∷ es) h = lower_leaves_by n e es (nat_lt e.layer n) h.0 (lower_leaves n es h.1)

lower_fewer_by : (n : ℕ) (e : Leaf) (es : List Leaf) (b : Bool) → length (lower_run n es) ≤ length es → length (if b then e ∷ lower_run n es else []) ≤ suc (length es)
lower_fewer_by n e es true h = omega arith
lower_fewer_by n e es false h = omega arith

lower_fewer : (n : ℕ) (es : List Leaf) → length (lower_run n es) ≤ length es
lower_fewer n [] = omega arith
lower_fewer n (e ∷ es) = lower_fewer_by n e es (nat_lt e.layer n) (lower_fewer n es)

pub lower_are_leaves : (n : ℕ) (es : List Leaf) → AreLeaves es → AreLeaves (lower_run n es)
lower_are_leaves n es h = (lower_leaves n es h.0, omega (arith, lower_fewer n es, h.1))

lower_below_by : (n : ℕ) (e : Leaf) (es : List Leaf) (b : Bool) → nat_lt e.layer n ≡ b → AreBelow n (lower_run n es) → AreBelow n (if b then e ∷ lower_run n es else [])
lower_below_by n e es true l h = (ltb-true e.layer n l, h)
lower_below_by n e es false l h = tt

pub lower_below : (n : ℕ) (es : List Leaf) → AreBelow n (lower_run n es)
lower_below n [] = tt
lower_below n (e ∷ es) = lower_below_by n e es (nat_lt e.layer n) refl (lower_below n es)

pub next_leaves : (e : Leaf) (es : List Leaf) → AreLeaves (e ∷ es) → AreLeaves es
next_leaves e es h = (h.0.1, omega (arith, h.1))

-- ---- what is stored

pub stored_apart : (stored : Stored) (a b : List Section) → AreStored stored (a ++ b) → AreStored stored a × AreStored stored b
stored_apart stored [] b h = (tt, h)
stored_apart stored (x ∷ xs) b h = let k = stored_apart stored xs b h.1 in ((h.0, k.0), k.1)

-- ---- the walk

-- W gives the entries of each subtree over leaves below layer n, if it is stored
abbrev pub WalksBelow : Stored → ℕ → (CidParts → List Entry → Type 0) → Type 0
WalksBelow stored n W = (es : List Leaf) → AreBelow n es → AreLeaves es → AreStored stored (subtree_nodes n es) → WalksLink W (subtree n es) (entries_under es)

rows_by : (W : CidParts → List Entry → Type 0) (stored : Stored) (n : ℕ) (previous : List ℕ) (e : Leaf) (es : List Leaf) (b : Bool)
    → (AreStored stored (nodes_between (subtree_nodes n) n es) → WalksRows W previous (rows_over (subtree n) n previous es) (entries_under (upper_rest n es)))
    → (AreStored stored (subtree_nodes n (lower_run n es)) → WalksLink W (subtree n (lower_run n es)) (entries_under (lower_run n es)))
    → (AreStored stored (nodes_between (subtree_nodes n) n es) → WalksRows W e.key (rows_over (subtree n) n e.key es) (entries_under (upper_rest n es)))
    → AreStored stored (if b then nodes_between (subtree_nodes n) n es else subtree_nodes n (lower_run n es) ++ nodes_between (subtree_nodes n) n es)
    → WalksRows W previous (if b then rows_over (subtree n) n previous es else row_at previous e (subtree n (lower_run n es)) ∷ rows_over (subtree n) n e.key es)
    (entries_under (if b then upper_rest n es else e ∷ es))
rows_by W stored n previous e es true skip below next h = skip h
rows_by W stored n previous e es false skip below next h =
    let s = stored_apart stored (subtree_nodes n (lower_run n es)) (nodes_between (subtree_nodes n) n es) h in (
      shared_within_first previous e.key,
      (
        entries_under (lower_run n es),
        entries_under (upper_rest n es),
        below s.0,
        subst (λ k. WalksRows W k (rows_over (subtree n) n e.key es) (entries_under (upper_rest n es))) (sym (key_again previous e.key)) (next s.1),
        λ i. (sym (key_again previous e.key) i, e.value) ∷ runs_split n es i,
      ),
    )

-- the rows of a node that follow a key: the entries of its first leaf of the layer, and of all
-- leaves after it
rows_walked : (W : CidParts → List Entry → Type 0) (stored : Stored) (n : ℕ) → WalksBelow stored n W → (previous : List ℕ) (es : List Leaf) → AreLeaves es
    → AreStored stored (nodes_between (subtree_nodes n) n es) → WalksRows W previous (rows_over (subtree n) n previous es) (entries_under (upper_rest n es))
rows_walked W stored n f previous [] l s = refl
rows_walked W stored n f previous (e ∷ es) l s =
    let more = next_leaves e es l in
    rows_by W stored n previous e es (nat_lt e.layer n) (rows_walked W stored n f previous es more) (f (lower_run n es) (lower_below n es) (lower_are_leaves n es more)) (rows_walked W stored n f e.key es more) s

node_walked : (stored : Stored) (m n : ℕ) → WalksBelow stored n (WalksTree m stored) → (es : List Leaf) → AreLeaves es → AreStored stored (nodes n es)
    → WalksTree (suc m) stored (block_name (spelling (node n es))) (entries_under es)
unfolding nodes
node_walked stored m n f es l h =
    let s = stored_apart stored (subtree_nodes n (lower_run n es)) (nodes_between (subtree_nodes n) n es ++ (node_section (node n es) ∷ [])) h in
    let t = stored_apart stored (nodes_between (subtree_nodes n) n es) (node_section (node n es) ∷ []) s.1 in (
      parts_over (subtree n) n es,
      record { block = spelling (node n es); is = t.1.0; named = refl; node = node_is_node n es l.0 l.1 },
      (
        entries_under (lower_run n es),
        entries_under (upper_rest n es),
        f (lower_run n es) (lower_below n es) (lower_are_leaves n es l) s.0,
        rows_walked (WalksTree m stored) stored n f [] es l t.0,
        runs_split n es,
      ),
    )

subtrees_walked : (stored : Stored) (n : ℕ) → WalksBelow stored n (WalksTree n stored)
unfolding subtree subtree_nodes node nodes
subtrees_walked stored zero [] b l s = refl
subtrees_walked stored zero (e ∷ es) b l s = absurd (omega (arith, b.0))
subtrees_walked stored (suc n) [] b l s = refl
subtrees_walked stored (suc n) (e ∷ es) b l s = (node_walked stored n n (subtrees_walked stored n) (e ∷ es) l s, λ none. cc none)

-- ---- with more layers

link_more : (V W : CidParts → List Entry → Type 0) → ((name : CidParts) (es : List Entry) → V name es → W name es) → (t : Option CidParts) (es : List Entry) → WalksLink V t es → WalksLink W t es
link_more V W f None es h = h
link_more V W f (Some name) es h = (f name es h.0, h.1)

rows_more : (V W : CidParts → List Entry → Type 0) → ((name : CidParts) (es : List Entry) → V name es → W name es) → (previous : List ℕ) (rs : List NodeRow) (es : List Entry)
    → WalksRows V previous rs es → WalksRows W previous rs es
rows_more V W f previous [] es h = h
rows_more V W f previous (r ∷ rs) es h =
    (h.0, (h.1.0, h.1.1, link_more V W f r.after h.1.0 h.1.2, rows_more V W f (key_of_row previous r) rs h.1.1 h.1.3, h.1.4))

walks_more : (m : ℕ) (stored : Stored) (name : CidParts) (es : List Entry) → WalksTree m stored name es → WalksTree (suc m) stored name es
walks_more zero stored name es h = absurd h
walks_more (suc m) stored name es h =
    let w = h.2 in
    let f = walks_more m stored in (
      h.0,
      h.1,
      (w.0, w.1, link_more (WalksTree m stored) (WalksTree (suc m) stored) f h.0.left w.0 w.2, rows_more (WalksTree m stored) (WalksTree (suc m) stored) f [] h.0.rows w.1 w.3, w.4),
    )

walks_within : (k m n : ℕ) (stored : Stored) (name : CidParts) (es : List Entry) → n ≡ k + m → WalksTree m stored name es → WalksTree n stored name es
walks_within zero m n stored name es e h = let same : m ≡ n = omega arith in subst (λ x. WalksTree x stored name es) same h
walks_within (suc k) m n stored name es e h = walks_within k (suc m) n stored name es (omega arith) (walks_more m stored name es h)

-- ---- the tree of entries

entries_again : (es : List Entry) → entries_under (leaves es) ≡ es
entries_again [] = refl
entries_again (e ∷ es) = ap (λ xs. e ∷ xs) (entries_again es)

pub each_leaf : (es : List Entry) → HaveKeys es → HaveCids es → AllByRecursion IsLeaf (leaves es)
each_leaf [] k c = tt
each_leaf (e ∷ es) k c = ((k.0, c.0, refl), each_leaf es k.1 c.1)

pub leaves_counted : (es : List Entry) → length (leaves es) ≡ length es
leaves_counted [] = refl
leaves_counted (e ∷ es) = ap suc (leaves_counted es)

tree_walked : (stored : Stored) (root : CidParts) (es : List Entry) → IsMst stored root es → WalksTree (suc (top_layer (leaves es))) stored root es
unfolding mst nodes_of
tree_walked stored root es h =
    subst (λ name. WalksTree (suc (top_layer (leaves es))) stored name es) (sym h.root_is)
    (subst (WalksTree (suc (top_layer (leaves es))) stored (root_of es)) (entries_again es)
    (node_walked stored (top_layer (leaves es)) (top_layer (leaves es)) (subtrees_walked stored (top_layer (leaves es))) (leaves es) (each_leaf es h.valid.keys h.valid.values, omega (arith, leaves_counted es, h.valid.count)) h.all))

-- a walk finds the entries of a stored tree
pub mst_walked : (stored : Stored) (root : CidParts) (es : List Entry) → IsMst stored root es → WalksTree most_layers stored root es
mst_walked stored root es h =
    walks_within (128 - top_layer (leaves es)) (suc (top_layer (leaves es))) most_layers stored root es (omega (arith, top_within es)) (tree_walked stored root es h)
