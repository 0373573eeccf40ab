-- Nodes in their layers are those of the tree of their entries.
use Rattle.std.proofs.Common.{◌≡◌, ◌≢◌, ℕ, zero, suc, ◌≤◌, List, [], ◌∷◌, ◌++◌, map, length, take, drop, Option, None, Some, refl, sym, ap, ap₂, ◌∙◌, subst, arith, lt-ltb, le-ltb}
use Rattle.std.specs.Prelude.{if◌then◌else◌}
use Rattle.std.proofs.lemmas.List.{map-append}
use Rattle.ipld_tree.specs.Cid.{CidParts}
use Rattle.ipld_tree.specs.Spelling.{spelling}
use Rattle.files_car.specs.Car.{Section}
use Rattle.ipld_links.specs.Names.{block_name}
use Rattle.ipld_links.specs.Reaching.{Stored}
use Rattle.atproto_mst.specs.Keys.{Entry, key_layer}
use Rattle.atproto_mst.specs.Trees.{Leaf, leaf_of, leaves, lower_run, shared, row_tree, entry_tree, entry_trees, node_map, node_section, nodes_between, subtree, node, subtree_nodes, nodes, top_layer, nodes_of, root_of}
use Rattle.atproto_mst.specs.Entries.{AreStored}
use Rattle.atproto_mst.specs.Nodes.{NodeRow, NodeParts, tree_of_row, tree_of_node, IsNodeAt, key_of_row}
use Rattle.atproto_mst.specs.Walks.{WalksLink, WalksRows, WalksNode, WalksTree}
use Rattle.atproto_mst.specs.InLayers.{IsLayerRow, IfLinked, AreRowsOf, IsOfLayer, IsEmpty, IsRightBelow, first_layer}
use Rattle.atproto_mst.proofs.Nodes.{same_node_at}
use Rattle.atproto_mst.proofs.Runs.{lower_first, top_first}
use Rattle.atproto_mst.proofs.Canonical.{AreBelow}
use Rattle.atproto_mst.proofs.Whole.{tree_is, nodes_is}

-- ---- runs of lower leaves before others

lower_joined : (n : ℕ) (es fs : List Leaf) → AreBelow n es → lower_run n fs ≡ [] → lower_run n (es ++ fs) ≡ es
lower_joined n [] fs b h = h
lower_joined n (e ∷ es) fs b h = lower_first n e (es ++ fs) b.0 ∙ ap (λ t. e ∷ t) (lower_joined n es fs b.1 h)

entries_joined : (sub : List Leaf → Option CidParts) (n : ℕ) (previous : List ℕ) (es fs : List Leaf) → AreBelow n es → entry_trees sub n previous (es ++ fs) ≡ entry_trees sub n previous fs
entries_joined sub n previous [] fs b = refl
entries_joined sub n previous (e ∷ es) fs b =
    ap (λ x. if x then entry_trees sub n previous (es ++ fs) else entry_tree previous e (sub (lower_run n (es ++ fs))) ∷ entry_trees sub n e.key (es ++ fs)) (lt-ltb e.layer n b.0)
    ∙ entries_joined sub n previous es fs b.1

nodes_joined : (below : List Leaf → List Section) (n : ℕ) (es fs : List Leaf) → AreBelow n es → nodes_between below n (es ++ fs) ≡ nodes_between below n fs
nodes_joined below n [] fs b = refl
nodes_joined below n (e ∷ es) fs b =
    ap (λ x. if x then nodes_between below n (es ++ fs) else below (lower_run n (es ++ fs)) ++ nodes_between below n (es ++ fs)) (lt-ltb e.layer n b.0)
    ∙ nodes_joined below n es fs b.1

below_more : (n : ℕ) (es : List Leaf) → AreBelow n es → AreBelow (suc n) es
below_more n [] b = tt
below_more n (e ∷ es) b = (omega (arith, b.0), below_more n es b.1)

below_joined : (n : ℕ) (es fs : List Leaf) → AreBelow n es → AreBelow n fs → AreBelow n (es ++ fs)
below_joined n [] fs b c = c
below_joined n (e ∷ es) fs b c = (b.0, below_joined n es fs b.1 c)

stored_joined : (stored : Stored) (a b : List Section) → AreStored stored a → AreStored stored b → AreStored stored (a ++ b)
stored_joined stored [] b h k = k
stored_joined stored (x ∷ xs) b h k = (h.0, stored_joined stored xs b h.1 k)

-- the bytes of a key after its front
rest_again : (s : ℕ) (previous rest : List ℕ) → s ≤ length previous → drop s (take s previous ++ rest) ≡ rest
rest_again zero previous rest h = refl
rest_again (suc s) [] rest h = absurd (omega (arith, h))
rest_again (suc s) (b ∷ bs) rest h = rest_again s bs rest (omega (arith, h))

tree_again : (previous : List ℕ) (r : NodeRow) → r.shared ≤ length previous → r.shared ≡ shared previous (key_of_row previous r)
    → tree_of_row r ≡ entry_tree previous (leaf_of (key_of_row previous r, r.value)) r.after
tree_again previous r within e =
    ap (λ k. row_tree r.shared k r.value r.after) (sym (rest_again r.shared previous r.rest within))
    ∙ ap (λ s. row_tree s (drop s (key_of_row previous r)) r.value r.after) e

-- ---- what stands in layers, over the entries that are walked

-- the tree under a link is that of the entries
pub record IsOver (stored : Stored) (n : ℕ) (l : Option CidParts) (es : List Entry) : Type 0 where
  pub link : l ≡ subtree n (leaves es)
  pub held : AreStored stored (subtree_nodes n (leaves es))
  pub below : AreBelow n (leaves es)

none_over : (stored : Stored) (n : ℕ) → IsOver stored n None []
unfolding subtree subtree_nodes
none_over stored zero = record { link = refl; held = tt; below = tt }
none_over stored (suc n) = record { link = refl; held = tt; below = tt }

-- the rows of a node are those of the entries
pub record AreOver (stored : Stored) (n : ℕ) (previous : List ℕ) (rs : List NodeRow) (es : List Entry) : Type 0 where
  pub tops : lower_run n (leaves es) ≡ []
  pub trees : map tree_of_row rs ≡ entry_trees (subtree n) n previous (leaves es)
  pub held : AreStored stored (nodes_between (subtree_nodes n) n (leaves es))
  pub within : AreBelow (suc n) (leaves es)

-- the nodes from this one on are those of the entries
pub record IsWhole (stored : Stored) (n : ℕ) (name : CidParts) (es : List Entry) : Type 0 where
  pub named : name ≡ block_name (spelling (node n (leaves es)))
  pub held : AreStored stored (nodes n (leaves es))
  pub within : AreBelow (suc n) (leaves es)

module _ (stored : Stored) (n : ℕ) (F : CidParts → Type 0) (W : CidParts → List Entry → Type 0) (over : (name : CidParts) (es : List Entry) → F name → W name es → IsOver stored n (Some name) es) where
  link_over : (l : Option CidParts) (es : List Entry) → IfLinked F l → WalksLink W l es → IsOver stored n l es
  link_over None es f w = subst (IsOver stored n None) (sym w) (none_over stored n)
  link_over (Some name) es f w = over name es f w.0

  row_over : (previous : List ℕ) (r : NodeRow) (rs : List NodeRow) (below more : List Entry) → IsLayerRow n previous r → r.shared ≤ length previous → IsOver stored n r.after below
      → AreOver stored n (key_of_row previous r) rs more → AreOver stored n previous (r ∷ rs) ((key_of_row previous r, r.value) ∷ (below ++ more))
  row_over previous r rs below more is shares b m =
      let top : n ≤ key_layer (key_of_row previous r) = omega (arith, is.0) in
      let e = leaf_of (key_of_row previous r, r.value) in
      let ls = leaves (below ++ more) in
      let parts : ls ≡ leaves below ++ leaves more = map-append leaf_of below more in
      let run : lower_run n ls ≡ leaves below = ap (lower_run n) parts ∙ lower_joined n (leaves below) (leaves more) b.below m.tops in
      record {
        tops = top_first n e ls top;
        trees =
            ap₂ (λ t ts. t ∷ ts) (tree_again previous r shares is.1 ∙ ap (entry_tree previous e) (b.link ∙ ap (subtree n) (sym run)))
            (m.trees ∙ sym (ap (entry_trees (subtree n) n (key_of_row previous r)) parts ∙ entries_joined (subtree n) n (key_of_row previous r) (leaves below) (leaves more) b.below))
            ∙ ap (λ x. if x then entry_trees (subtree n) n previous ls else entry_tree previous e (subtree n (lower_run n ls)) ∷ entry_trees (subtree n) n e.key ls) (sym (le-ltb e.layer n top));
        held =
            subst (AreStored stored) (ap (λ x. if x then nodes_between (subtree_nodes n) n ls else subtree_nodes n (lower_run n ls) ++ nodes_between (subtree_nodes n) n ls) (sym (le-ltb e.layer n top)))
            (stored_joined stored (subtree_nodes n (lower_run n ls)) (nodes_between (subtree_nodes n) n ls)
            (subst (λ x. AreStored stored (subtree_nodes n x)) (sym run) b.held)
            (subst (AreStored stored) (sym (ap (nodes_between (subtree_nodes n) n) parts ∙ nodes_joined (subtree_nodes n) n (leaves below) (leaves more) b.below)) m.held));
        within = (omega (arith, is.0), subst (AreBelow (suc n)) (sym parts) (below_joined (suc n) (leaves below) (leaves more) (below_more n (leaves below) b.below) m.within));
      }

  rows_over : (rs : List NodeRow) (previous : List ℕ) (es : List Entry) → AreRowsOf F n previous rs → WalksRows W previous rs es → AreOver stored n previous rs es
  rows_over [] previous es f w = subst (AreOver stored n previous []) (sym w) (record { tops = refl; trees = refl; held = tt; within = tt })
  rows_over (r ∷ rs) previous es (is, link, rows) (shares, (below, more, walked, following, all)) =
      subst (AreOver stored n previous (r ∷ rs)) (sym all)
      (row_over previous r rs below more is shares (link_over r.after below link walked) (rows_over rs (key_of_row previous r) more rows following))

  node_by : (name : CidParts) (p : NodeParts) (below more : List Entry) → IsNodeAt stored name p → IsOver stored n p.left below → AreOver stored n [] p.rows more → IsWhole stored n name (below ++ more)
  unfolding node nodes
  node_by name p below more at b m =
      let ls = leaves (below ++ more) in
      let parts : ls ≡ leaves below ++ leaves more = map-append leaf_of below more in
      let run : lower_run n ls ≡ leaves below = ap (lower_run n) parts ∙ lower_joined n (leaves below) (leaves more) b.below m.tops in
      let tree : tree_of_node p ≡ node n ls =
      ap₂ (λ ts l. node_map ts l) (m.trees ∙ sym (ap (entry_trees (subtree n) n []) parts ∙ entries_joined (subtree n) n [] (leaves below) (leaves more) b.below)) (b.link ∙ ap (subtree n) (sym run)) in
      let block : at.block ≡ spelling (node n ls) = at.node.spelled.is ∙ ap spelling tree in
      let named : name ≡ block_name (spelling (node n ls)) = at.named ∙ ap block_name block in
      record {
        named = named;
        held =
            stored_joined stored (subtree_nodes n (lower_run n ls)) (nodes_between (subtree_nodes n) n ls ++ (node_section (node n ls) ∷ []))
            (subst (λ x. AreStored stored (subtree_nodes n x)) (sym run) b.held)
            (stored_joined stored (nodes_between (subtree_nodes n) n ls) (node_section (node n ls) ∷ [])
            (subst (AreStored stored) (sym (ap (nodes_between (subtree_nodes n) n) parts ∙ nodes_joined (subtree_nodes n) n (leaves below) (leaves more) b.below)) m.held)
            (ap stored (sym named) ∙ at.is ∙ ap (λ x. Some x) block, tt));
        within = subst (AreBelow (suc n)) (sym parts) (below_joined (suc n) (leaves below) (leaves more) (below_more n (leaves below) b.below) m.within);
      }

  node_over : (name : CidParts) (p : NodeParts) (es : List Entry) → IsNodeAt stored name p → IsOfLayer F n p → WalksNode W p es → IsWhole stored n name es
  node_over name p es at f (below, more, link, rows, all) =
      subst (IsWhole stored n name) (sym all) (node_by name p below more at (link_over p.left below f.0 link) (rows_over p.rows [] more f.1 rows))

-- ---- a node that is not empty has an entry

some_over : (stored : Stored) (n : ℕ) (name : CidParts) (es : List Entry) → IsOver stored n (Some name) es → es ≢ []
unfolding subtree
some_over stored zero name es o e = let no = o.link in absurd (cc no)
some_over stored (suc n) name es o e = let no = o.link ∙ ap (λ x. subtree (suc n) (leaves x)) e in absurd (cc no)

joined_none : (es fs : List Entry) → es ++ fs ≡ [] → (es ≡ []) × (fs ≡ [])
joined_none [] fs h = (refl, h)
joined_none (e ∷ es) fs h = absurd (cc h)

no_rows : (W : CidParts → List Entry → Type 0) (rs : List NodeRow) (es : List Entry) → WalksRows W [] rs es → es ≡ [] → rs ≡ []
no_rows W [] es w e = refl
no_rows W (r ∷ rs) es (shares, (below, more, link, rows, all)) e = let no = sym all ∙ e in absurd (cc no)

no_link : (stored : Stored) (n : ℕ) (l : Option CidParts) (es : List Entry) → IsOver stored n l es → es ≡ [] → l ≡ None
no_link stored n None es o e = refl
no_link stored n (Some name) es o e = absurd (some_over stored n name es o e)

module _ (stored : Stored) (n : ℕ) (F : CidParts → Type 0) (W : CidParts → List Entry → Type 0) (over : (name : CidParts) (es : List Entry) → F name → W name es → IsOver stored n (Some name) es) where
  some_entry : (p : NodeParts) (es : List Entry) → (¬ IsEmpty p) → IsOfLayer F n p → WalksNode W p es → es ≢ []
  some_entry p es some f (below, more, link, rows, all) e =
      let none = joined_none below more (sym all ∙ e) in
      some (no_rows W p.rows more rows none.1, no_link stored n p.left below (link_over stored n F W over p.left below f.0 link) none.0)

-- ---- below a node

whole_over : (stored : Stored) (n : ℕ) (name : CidParts) (es : List Entry) → es ≢ [] → IsWhole stored n name es → IsOver stored (suc n) (Some name) es
unfolding subtree subtree_nodes node nodes
whole_over stored n name [] some w = absurd (some refl)
whole_over stored n name (e ∷ es) some w = record { link = ap (λ x. Some x) w.named; held = w.held; below = w.within }

pub below_over : (stored : Stored) (n m : ℕ) (name : CidParts) (es : List Entry) → IsRightBelow stored n name → WalksTree m stored name es → IsOver stored n (Some name) es
below_over stored zero m name es f w = absurd f
below_over stored (suc n) zero name es f w = absurd w
below_over stored (suc n) (suc m) name es (p, at, some, f) (q, there, walked) =
    let walked = subst (λ x. WalksNode (WalksTree m stored) x es) (same_node_at stored name q p there at) walked in
    let over = below_over stored n m in
    whole_over stored n name es (some_entry stored n (IsRightBelow stored n) (WalksTree m stored) over p es some f walked)
    (node_over stored n (IsRightBelow stored n) (WalksTree m stored) over name p es at f walked)

-- ---- the root

top_within : (n : ℕ) (es : List Leaf) → AreBelow (suc n) es → top_layer es ≤ n
top_within n [] b = omega arith
top_within n (e ∷ es) b = omega (arith, b.0, top_within n es b.1)

top_among : (es fs : List Leaf) (e : Leaf) → e.layer ≤ top_layer (es ++ (e ∷ fs))
top_among [] fs e = omega arith
top_among (x ∷ xs) fs e = omega (arith, top_among xs fs e)

top_by : (n : ℕ) (ls es fs : List Leaf) (e : Leaf) → AreBelow (suc n) ls → ls ≡ es ++ (e ∷ fs) → e.layer ≡ n → n ≡ top_layer ls
top_by n ls es fs e b is at = omega (arith, top_within n ls b, top_among es fs e, ap top_layer is, at)

front_none : (s : ℕ) (rest : List ℕ) → take s [] ++ rest ≡ rest
front_none zero rest = refl
front_none (suc s) rest = refl

pub first_key : (r : NodeRow) → key_of_row [] r ≡ r.rest
first_key r = front_none r.shared r.rest

-- the first layer is the top
root_top : (stored : Stored) (W : CidParts → List Entry → Type 0) (l : Option CidParts) (rs : List NodeRow) (below more es : List Entry) → IfLinked (IsRightBelow stored (first_layer rs)) l
    → WalksLink W l below → WalksRows W [] rs more → es ≡ below ++ more → AreBelow (suc (first_layer rs)) (leaves es) → first_layer rs ≡ top_layer (leaves es)
root_top stored W None [] below more es f link rows all b = ap (λ x. top_layer (leaves x)) (sym (all ∙ ap₂ (λ x y. x ++ y) link rows))
root_top stored W (Some name) [] below more es f link rows all b = absurd f
root_top stored W l (r ∷ rs) below more es f link (shares, (under, following, walked, next, is)) all b =
    top_by (key_layer r.rest) (leaves es) (leaves below) (leaves (under ++ following)) (leaf_of (key_of_row [] r, r.value)) b
    (ap leaves (all ∙ ap (λ x. below ++ x) is) ∙ map-append leaf_of below ((key_of_row [] r, r.value) ∷ (under ++ following))) (ap key_layer (first_key r))

-- a root and the nodes below it are in their layers
abbrev pub IsRoot : Stored → NodeParts → Type 0
IsRoot stored p = IsOfLayer (IsRightBelow stored (first_layer p.rows)) (first_layer p.rows) p

-- a root whose nodes are in their layers is that of its entries, whose nodes are stored
pub root_over : (stored : Stored) (m : ℕ) (name : CidParts) (p : NodeParts) (es : List Entry) → IsNodeAt stored name p → IsRoot stored p → WalksNode (WalksTree m stored) p es
    → (name ≡ root_of es) × AreStored stored (nodes_of es)
root_over stored m name p es at f w =
    let n = first_layer p.rows in
    let whole = node_over stored n (IsRightBelow stored n) (WalksTree m stored) (below_over stored n m) name p es at f w in
    let top = root_top stored (WalksTree m stored) p.left p.rows w.0 w.1 es f.0 w.2 w.3 w.4 whole.within in (
      whole.named ∙ ap (λ t. block_name (spelling t)) (tree_is es (leaves es) n refl top),
      subst (AreStored stored) (nodes_is es (leaves es) n refl top) whole.held,
    )
