-- The nodes of a stored tree are in their layers.
use Rattle.std.proofs.Common.{◌≡◌, ◌⊎◌, inl, inr, ℕ, zero, suc, ◌<◌, ◌≤◌, Bool, true, false, List, [], ◌∷◌, ◌++◌, Option, None, refl, sym, ap, ◌∙◌, subst, arith, ltb-false, ltb-true}
use Rattle.std.specs.Prelude.{if◌then◌else◌, nat_lt}
use Rattle.ipld_tree.specs.Cid.{CidParts}
use Rattle.ipld_tree.specs.Spelling.{spelling}
use Rattle.ipld_links.specs.Names.{block_name}
use Rattle.ipld_links.specs.Reaching.{Stored}
use Rattle.atproto_mst.specs.Keys.{Entry, key_layer}
use Rattle.atproto_mst.specs.Trees.{Leaf, leaves, lower_run, shared, node_section, nodes_between, subtree, node, subtree_nodes, nodes, top_layer, mst, nodes_of}
use Rattle.atproto_mst.specs.Entries.{AreStored, IsMst}
use Rattle.atproto_mst.specs.Nodes.{NodeRow, NodeParts, IsNodeAt}
use Rattle.atproto_mst.specs.InLayers.{IsLayerRow, IfLinked, AreRowsOf, IsOfLayer, IsEmpty, IsRightBelow, first_layer}
use Rattle.atproto_mst.proofs.Nodes.{same_node_at}
use Rattle.atproto_mst.proofs.Parts.{row_at, rows_over, parts_over, key_again, IsLeaf, node_is_node}
use Rattle.atproto_mst.proofs.Canonical.{AreBelow, AreLeaves, lower_are_leaves, lower_below, next_leaves, stored_apart, each_leaf, leaves_counted}
use Rattle.atproto_mst.proofs.Layered.{first_key, IsRoot}

-- the subtrees over leaves below layer n are in their layers, if they are stored
abbrev StandBelow : Stored → ℕ → (CidParts → Type 0) → Type 0
StandBelow stored n F = (es : List Leaf) → AreBelow n es → AreLeaves es → AreStored stored (subtree_nodes n es) → IfLinked F (subtree n es)

row_stands : (n : ℕ) (previous : List ℕ) (e : Leaf) (t : Option CidParts) → IsLeaf e → e.layer < suc n → nat_lt e.layer n ≡ false → IsLayerRow n previous (row_at previous e t)
row_stands n previous e t leaf within top =
    let key = key_again previous e.key in
    (ap key_layer key ∙ sym leaf.2 ∙ omega (arith, within, ltb-false e.layer n top), ap (shared previous) (sym key))

module _ (stored : Stored) (n : ℕ) (F : CidParts → Type 0) (f : StandBelow stored n F) where
  rows_by : (previous : List ℕ) (e : Leaf) (es : List Leaf) (b : Bool) → nat_lt e.layer n ≡ b → IsLeaf e → e.layer < suc n
      → (AreStored stored (nodes_between (subtree_nodes n) n es) → AreRowsOf F n previous (rows_over (subtree n) n previous es))
      → (AreStored stored (subtree_nodes n (lower_run n es)) → IfLinked F (subtree n (lower_run n es)))
      → (AreStored stored (nodes_between (subtree_nodes n) n es) → AreRowsOf F n e.key (rows_over (subtree n) n e.key es))
      → AreStored stored (if b then nodes_between (subtree_nodes n) n es else subtree_nodes n (lower_run n es) ++ nodes_between (subtree_nodes n) n es)
      → AreRowsOf F n previous (if b then rows_over (subtree n) n previous es else row_at previous e (subtree n (lower_run n es)) ∷ rows_over (subtree n) n e.key es)
  rows_by previous e es true l leaf within skip below next h = skip h
  rows_by previous e es false l leaf within skip below next h =
      let s = stored_apart stored (subtree_nodes n (lower_run n es)) (nodes_between (subtree_nodes n) n es) h in (
        row_stands n previous e (subtree n (lower_run n es)) leaf within l,
        below s.0,
        subst (λ k. AreRowsOf F n k (rows_over (subtree n) n e.key es)) (sym (key_again previous e.key)) (next s.1),
      )

  rows_stand : (previous : List ℕ) (es : List Leaf) → AreBelow (suc n) es → AreLeaves es → AreStored stored (nodes_between (subtree_nodes n) n es) → AreRowsOf F n previous (rows_over (subtree n) n previous es)
  rows_stand previous [] b l s = tt
  rows_stand previous (e ∷ es) b l s =
      let more = next_leaves e es l in
      rows_by previous e es (nat_lt e.layer n) refl l.0.0 b.0 (rows_stand previous es b.1 more) (f (lower_run n es) (lower_below n es) (lower_are_leaves n es more)) (rows_stand e.key es b.1 more) s

  -- the parts of a node of layer n, and that its block is stored
  node_stands : (es : List Leaf) → AreBelow (suc n) es → AreLeaves es → AreStored stored (nodes n es)
      → IsOfLayer F n (parts_over (subtree n) n es) × IsNodeAt stored (block_name (spelling (node n es))) (parts_over (subtree n) n es)
  unfolding nodes
  node_stands es b l h =
      let s = stored_apart stored (subtree_nodes n (lower_run n es)) (nodes_between (subtree_nodes n) n es ++ (node_section (node n es) ∷ [])) h in
      let t = stored_apart stored (nodes_between (subtree_nodes n) n es) (node_section (node n es) ∷ []) s.1 in (
        (f (lower_run n es) (lower_below n es) (lower_are_leaves n es l) s.0, rows_stand [] es b l t.0),
        record { block = spelling (node n es); is = t.1.0; named = refl; node = node_is_node n es l.0 l.1 },
      )

-- ---- they are not empty

some_link : (n : ℕ) (e : Leaf) (es : List Leaf) → e.layer < n → subtree n (e ∷ es) ≡ None → ⊥
unfolding subtree
some_link zero e es h k = absurd (omega (arith, h))
some_link (suc n) e es h k = absurd (cc k)

some_by : (n : ℕ) (e : Leaf) (es : List Leaf) (rs : List NodeRow) (r : NodeRow) (ss : List NodeRow) (b : Bool) → (b ≡ true → e.layer < n)
    → (if b then rs else r ∷ ss) ≡ [] → subtree n (if b then e ∷ lower_run n es else []) ≡ None → ⊥
some_by n e es rs r ss true h x y = some_link n e (lower_run n es) (h refl) y
some_by n e es rs r ss false h x y = absurd (cc x)

some_node : (n : ℕ) (e : Leaf) (es : List Leaf) → ¬ IsEmpty (parts_over (subtree n) n (e ∷ es))
some_node n e es none =
    some_by n e es (rows_over (subtree n) n [] es) (row_at [] e (subtree n (lower_run n es))) (rows_over (subtree n) n e.key es) (nat_lt e.layer n) (λ l. ltb-true e.layer n l) none.0 none.1

subtrees_stand : (stored : Stored) (n : ℕ) → StandBelow stored n (IsRightBelow stored n)
unfolding subtree subtree_nodes node nodes
subtrees_stand stored zero [] b l s = tt
subtrees_stand stored zero (e ∷ es) b l s = absurd (omega (arith, b.0))
subtrees_stand stored (suc n) [] b l s = tt
subtrees_stand stored (suc n) (e ∷ es) b l s =
    let node = node_stands stored n (IsRightBelow stored n) (subtrees_stand stored n) (e ∷ es) b l s in
    (parts_over (subtree n) n (e ∷ es), node.1, some_node n e es, node.0)

-- ---- the root

within_top : (n : ℕ) (es : List Leaf) → top_layer es ≤ n → AreBelow (suc n) es
within_top n [] h = tt
within_top n (e ∷ es) h = (omega (arith, h), within_top n es (omega (arith, h)))

no_rows_by : (n : ℕ) (e : Leaf) (rs : List NodeRow) (r : NodeRow) (ss : List NodeRow) (b : Bool) → (b ≡ true → e.layer < n) → (if b then rs else r ∷ ss) ≡ [] → (e.layer < n) × (rs ≡ [])
no_rows_by n e rs r ss true l h = (l refl, h)
no_rows_by n e rs r ss false l h = absurd (cc h)

-- without rows all leaves are lower
no_rows_below : (sub : List Leaf → Option CidParts) (n : ℕ) (previous : List ℕ) (es : List Leaf) → rows_over sub n previous es ≡ [] → AreBelow n es
no_rows_below sub n previous [] h = tt
no_rows_below sub n previous (e ∷ es) h =
    let k = no_rows_by n e (rows_over sub n previous es) (row_at previous e (sub (lower_run n es))) (rows_over sub n e.key es) (nat_lt e.layer n) (λ l. ltb-true e.layer n l) h in
    (k.0, no_rows_below sub n previous es k.1)

below_top : (n : ℕ) (es : List Leaf) → AreBelow n es → (es ≡ []) ⊎ (top_layer es < n)
below_top n [] b = inl refl
below_top n (e ∷ es) b = inr (by (below_top n es b.1))
  where
    by : (es ≡ []) ⊎ (top_layer es < n) → top_layer (e ∷ es) < n
    by (inl none) = omega (arith, b.0, ap top_layer none)
    by (inr less) = omega (arith, b.0, less)

no_rows_at_top : (es : List Leaf) → rows_over (subtree (top_layer es)) (top_layer es) [] es ≡ [] → 0 ≡ top_layer es
no_rows_at_top es h = elim (below_top (top_layer es) es (no_rows_below (subtree (top_layer es)) (top_layer es) [] es h)) [
  | inl none ↦ sym (ap top_layer none)
  | inr less ↦ absurd (omega (arith, less))
]

layer_is : (F : CidParts → Type 0) (n : ℕ) (rs : List NodeRow) → AreRowsOf F n [] rs → (rs ≡ [] → 0 ≡ n) → first_layer rs ≡ n
layer_is F n [] f none = none refl
layer_is F n (r ∷ rs) f none = ap key_layer (sym (first_key r)) ∙ f.0.0

-- the root of a stored tree, and the nodes below it
pub root_stands : (stored : Stored) (name : CidParts) (es : List Entry) (p : NodeParts) → IsMst stored name es → IsNodeAt stored name p → IsRoot stored p
unfolding mst nodes_of
root_stands stored name es p h at =
    let ls = leaves es in
    let n = top_layer ls in
    let node = node_stands stored n (IsRightBelow stored n) (subtrees_stand stored n) ls (within_top n ls (omega arith))
    (each_leaf es h.valid.keys h.valid.values, omega (arith, leaves_counted es, h.valid.count)) h.all in
    let same : parts_over (subtree n) n ls ≡ p = same_node_at stored name (parts_over (subtree n) n ls) p (subst (λ x. IsNodeAt stored x (parts_over (subtree n) n ls)) (sym h.root_is) node.1) at in
    let layer : first_layer (parts_over (subtree n) n ls).rows ≡ n = layer_is (IsRightBelow stored n) n (parts_over (subtree n) n ls).rows node.0.1 (no_rows_at_top ls) in
    subst (IsRoot stored) same (subst (λ k. IsOfLayer (IsRightBelow stored k) k (parts_over (subtree n) n ls)) (sym layer) node.0)
