-- The pieces of an opened tree stand for its entries.
use Rattle.std.proofs.Common.{◌≡◌, ◌⊎◌, inl, inr, ℕ, zero, suc, ◌<◌, ◌≤◌, Bool, true, false, List, [], ◌∷◌, ◌++◌, Option, Some, None, refl, sym, ap, ◌∙◌, subst, arith, ltb-true, ltb-false}
use Rattle.std.specs.Prelude.{if◌then◌else◌, nat_lt}
use Rattle.std.specs.List.{AllByRecursion}
use Rattle.ipld_tree.specs.Cid.{CidParts}
use Rattle.ipld_tree.specs.Spelling.{spelling}
use Rattle.ipld_links.specs.Names.{block_name}
use Rattle.ipld_links.specs.Reaching.{Stored}
use Rattle.atproto_mst.specs.Keys.{Entry, key_layer}
use Rattle.atproto_mst.specs.Trees.{Leaf, leaf_of, leaves, lower_run, node_section, nodes_between, subtree, node, subtree_nodes, nodes, top_layer, mst, nodes_of}
use Rattle.atproto_mst.specs.Placed.{upper_rest}
use Rattle.atproto_mst.specs.Nodes.{NodeParts, IsNodeAt, key_of_row}
use Rattle.atproto_mst.specs.Entries.{AreStored}
use Rattle.atproto_mst.specs.InLayers.{first_layer}
use Rattle.atproto_mst.specs.Differing.{NamesBind}
use Rattle.atproto_mst.proofs.Parts.{row_at, rows_over, parts_over, key_again, IsLeaf, node_is_node}
use Rattle.atproto_mst.proofs.Canonical.{entries_under, AreBelow, AreLeaves, lower_are_leaves, lower_below, next_leaves, stored_apart, each_leaf, leaves_counted}
use Rattle.atproto_mst.proofs.Leading.{held, first_held, held_agrees}
use Rattle.ipld_links.specs.Sets.{Among}
use Rattle.files_car.specs.Car.{Section}
use Rattle.atproto_events.specs.Pieces.{PieceParts, subtree_piece, Fills, OpensLink, OpensRows, OpensNode, OpensBelow}
use Rattle.atproto_events.specs.Laws.{OpenedFill}
use Rattle.atproto_events.proofs.Filling.{fills_joined}

split_by : (n : ℕ) (e : Leaf) (es : List Leaf) (b : Bool) → entries_under es ≡ entries_under (lower_run n es) ++ entries_under (upper_rest n es)
    → entries_under (e ∷ es) ≡ entries_under (if b then e ∷ lower_run n es else []) ++ entries_under (if b then upper_rest n es else e ∷ es)
split_by n e es true h = ap (λ xs. (e.key, e.value) ∷ xs) h
split_by n e es false h = refl

runs_split : (n : ℕ) (es : List Leaf) → entries_under es ≡ entries_under (lower_run n es) ++ entries_under (upper_rest n es)
runs_split n [] = refl
runs_split n (e ∷ es) = split_by n e es (nat_lt e.layer n) (runs_split n es)

entries_again : (es : List Entry) → entries_under (leaves es) ≡ es
entries_again [] = refl
entries_again (e ∷ es) = ap (λ xs. e ∷ xs) (entries_again es)

leaf_again : (e : Leaf) → IsLeaf e → leaf_of (e.key, e.value) ≡ e
leaf_again e h = let layer = sym h.2 in λ i. record { layer = layer i; key = e.key; value = e.value }

leaves_again : (es : List Leaf) → AllByRecursion IsLeaf es → leaves (entries_under es) ≡ es
leaves_again [] h = refl
leaves_again (e ∷ es) h = λ i. leaf_again e h.0 i ∷ leaves_again es h.1 i

no_more : {X : Type 0} (xs : List X) → xs ++ [] ≡ xs
no_more [] = refl
no_more (x ∷ xs) = ap (λ l. x ∷ l) (no_more xs)

-- no link has no leaves
none_there : (n : ℕ) (es : List Leaf) → AreBelow n es → subtree n es ≡ None → es ≡ []
unfolding subtree
none_there zero [] b h = refl
none_there zero (e ∷ es) b h = absurd (omega (arith, b.0))
none_there (suc n) [] b h = refl
none_there (suc n) (e ∷ es) b h = absurd (cc h)

-- if two stores have a node under the same name, it is the same node
abbrev Agree : Stored → Stored → Type 0
Agree stored other = (name : CidParts) (p q : NodeParts) → IsNodeAt stored name p → IsNodeAt other name q → p ≡ q

-- the node under the name of a node of leaves is that one
same_parts : (stored other : Stored) → Agree stored other → (n : ℕ) (name : CidParts) (p : NodeParts) (es : List Leaf) → AreLeaves es → AreStored other (nodes n es) → IsNodeAt stored name p
    → block_name (spelling (node n es)) ≡ name → p ≡ parts_over (subtree n) n es
unfolding nodes
same_parts stored other agree n name p es l there at h =
    let following = (stored_apart other (subtree_nodes n (lower_run n es)) (nodes_between (subtree_nodes n) n es ++ (node_section (node n es) ∷ [])) there).1 in
    let last = (stored_apart other (nodes_between (subtree_nodes n) n es) (node_section (node n es) ∷ []) following).1.0 in
    agree name p (parts_over (subtree n) n es) at
    (subst (λ q. IsNodeAt other q (parts_over (subtree n) n es)) h record { block = spelling (node n es); is = last; named = refl; node = node_is_node n es l.0 l.1 })

-- the trees right below a layer are so
abbrev FillsBelow : Stored → ℕ → (CidParts → List PieceParts → Type 0) → Type 0
FillsBelow other n F = (name : CidParts) (ps : List PieceParts) (es : List Leaf) → F name ps → AreBelow n es → AreLeaves es → AreStored other (subtree_nodes n es) → subtree n es ≡ Some name
    → Fills ps (entries_under es)

module _ (other : Stored) (n : ℕ) (F : CidParts → List PieceParts → Type 0) (below : FillsBelow other n F) where
  link_by : (l : Option CidParts) (ps : List PieceParts) (es : List Leaf) → subtree n es ≡ l → OpensLink F l ps → AreBelow n es → AreLeaves es → AreStored other (subtree_nodes n es) → Fills ps (entries_under es)
  link_by None ps es is o b l s = subst (λ x. Fills x (entries_under es)) (sym o) (ap entries_under (none_there n es b is))
  link_by (Some name) ps es is o b l s = below name ps es o b l s is

  link_fills : (ps : List PieceParts) (es : List Leaf) → OpensLink F (subtree n es) ps → AreBelow n es → AreLeaves es → AreStored other (subtree_nodes n es) → Fills ps (entries_under es)
  link_fills ps es o b l s = link_by (subtree n es) ps es refl o b l s

  row_fills : (key : List ℕ) (e : Leaf) (es : List Leaf) (ps below more : List PieceParts) → key ≡ e.key → key_layer key ≡ n
      → ps ≡ record { layer = n; key = Some key; cid = e.value } ∷ (below ++ more) → Fills below (entries_under (lower_run n es)) → Fills more (entries_under (upper_rest n es))
      → Fills ps (entries_under (e ∷ es))
  row_fills key e es ps below more is layer all b m =
      subst (λ x. Fills x (entries_under (e ∷ es))) (sym all) (
        (e.key, e.value) ∷ [],
        entries_under (lower_run n es) ++ entries_under (upper_rest n es),
        (sym layer, ap (λ k. (k, e.value) ∷ []) (sym is)),
        fills_joined below more (entries_under (lower_run n es)) (entries_under (upper_rest n es)) b m,
        ap (λ x. (e.key, e.value) ∷ x) (runs_split n es),
      )

  rows_by : (previous : List ℕ) (e : Leaf) (es : List Leaf) (ps : List PieceParts) (b : Bool) → AreLeaves (e ∷ es)
      → (AreStored other (nodes_between (subtree_nodes n) n es) → OpensRows F n previous (rows_over (subtree n) n previous es) ps → Fills ps (entries_under (upper_rest n es)))
      → (AreStored other (nodes_between (subtree_nodes n) n es) → (more : List PieceParts) → OpensRows F n e.key (rows_over (subtree n) n e.key es) more → Fills more (entries_under (upper_rest n es)))
      → AreStored other (if b then nodes_between (subtree_nodes n) n es else subtree_nodes n (lower_run n es) ++ nodes_between (subtree_nodes n) n es)
      → OpensRows F n previous (if b then rows_over (subtree n) n previous es else row_at previous e (subtree n (lower_run n es)) ∷ rows_over (subtree n) n e.key es) ps
      → Fills ps (entries_under (if b then upper_rest n es else e ∷ es))
  rows_by previous e es ps true l skip next s o = skip s o
  rows_by previous e es ps false l skip next s (under, more, link, rows, all, layer) =
      let parts = stored_apart other (subtree_nodes n (lower_run n es)) (nodes_between (subtree_nodes n) n es) s in
      row_fills (key_of_row previous (row_at previous e (subtree n (lower_run n es)))) e es ps under more (key_again previous e.key) layer all
      (link_fills under (lower_run n es) link (lower_below n es) (lower_are_leaves n es (next_leaves e es l)) parts.0)
      (next parts.1 more (subst (λ k. OpensRows F n k (rows_over (subtree n) n e.key es) more) (key_again previous e.key) rows))

  rows_fill : (previous : List ℕ) (es : List Leaf) (ps : List PieceParts) → AreLeaves es → AreStored other (nodes_between (subtree_nodes n) n es) → OpensRows F n previous (rows_over (subtree n) n previous es) ps
      → Fills ps (entries_under (upper_rest n es))
  rows_fill previous [] ps l s o = subst (λ x. Fills x []) (sym o) refl
  rows_fill previous (e ∷ es) ps l s o =
      let more = next_leaves e es l in
      rows_by previous e es ps (nat_lt e.layer n) l (λ t r. rows_fill previous es ps more t r) (λ t qs r. rows_fill e.key es qs more t r) s o

  node_fills : (ps : List PieceParts) (es : List Leaf) → AreLeaves es → AreStored other (nodes n es) → OpensNode F n (parts_over (subtree n) n es) ps → Fills ps (entries_under es)
  unfolding nodes
  node_fills ps es l s (under, more, link, rows, all) =
      let parts = stored_apart other (subtree_nodes n (lower_run n es)) (nodes_between (subtree_nodes n) n es ++ (node_section (node n es) ∷ [])) s in
      let between = (stored_apart other (nodes_between (subtree_nodes n) n es) (node_section (node n es) ∷ []) parts.1).0 in
      subst (λ x. Fills x (entries_under es)) (sym all) (subst (Fills (under ++ more)) (sym (runs_split n es))
      (fills_joined under more (entries_under (lower_run n es)) (entries_under (upper_rest n es))
      (link_fills under (lower_run n es) link (lower_below n es) (lower_are_leaves n es l) parts.0) (rows_fill [] es more l between rows)))

-- one that is not stored
lone_fills : (n : ℕ) (name : CidParts) (es : List Leaf) → AreBelow (suc n) es → AreLeaves es → subtree (suc n) es ≡ Some name
    → Fills (subtree_piece n name ∷ []) (entries_under es)
lone_fills n name es b l is =
    let again = sym (leaves_again es l.0) in (
      entries_under es,
      [],
      (subst (λ x. subtree (suc n) x ≡ Some name) again is, subst (AllByRecursion (λ e. e.layer < suc n)) again b),
      refl,
      sym (no_more (entries_under es)),
    )

some_same : (x y : CidParts) → Some x ≡ Some y → x ≡ y
some_same x y h = cc h

some_node : (n : ℕ) (name : CidParts) (e : Leaf) (es : List Leaf) → subtree (suc n) (e ∷ es) ≡ Some name → block_name (spelling (node n (e ∷ es))) ≡ name
unfolding subtree node
some_node n name e es h = some_same (block_name (spelling (node n (e ∷ es)))) name h

none_not_some : (n : ℕ) (name : CidParts) → subtree (suc n) [] ≡ Some name → ⊥
unfolding subtree
none_not_some n name h = absurd (cc h)

nodes_there : (other : Stored) (n : ℕ) (e : Leaf) (es : List Leaf) → AreStored other (subtree_nodes (suc n) (e ∷ es)) → AreStored other (nodes n (e ∷ es))
unfolding subtree_nodes nodes
nodes_there other n e es s = s

below_fills : (stored other : Stored) → Agree stored other → (n : ℕ) → FillsBelow other n (OpensBelow stored n)
below_fills stored other agree zero name ps es o b l s is = absurd o
below_fills stored other agree (suc n) name ps [] o b l s is = absurd (none_not_some n name is)
below_fills stored other agree (suc n) name ps (e ∷ es) (inl lone) b l s is = subst (λ x. Fills x (entries_under (e ∷ es))) (sym lone.1) (lone_fills n name (e ∷ es) b l is)
below_fills stored other agree (suc n) name ps (e ∷ es) (inr (p, at, opened)) b l s is =
    let there = nodes_there other n e es s in
    let same = same_parts stored other agree n name p (e ∷ es) l there at (some_node n name e es is) in
    node_fills other n (OpensBelow stored n) (below_fills stored other agree n) ps (e ∷ es) l there (subst (λ x. OpensNode (OpensBelow stored n) n x ps) same opened)

-- ---- the root

within_top : (n : ℕ) (es : List Leaf) → top_layer es ≤ n → AreBelow (suc n) es
within_top n [] h = tt
within_top n (e ∷ es) h = (omega (arith, h), within_top n es (omega (arith, h)))

below_top : (n : ℕ) (es : List Leaf) → AreBelow n es → (es ≡ []) ⊎ (top_layer es < n)
below_top n [] b = inl refl
below_top n (e ∷ es) b = inr (by (below_top n es b.1))
  where
    by : (es ≡ []) ⊎ (top_layer es < n) → top_layer (e ∷ es) < n
    by (inl none) = omega (arith, b.0, ap top_layer none)
    by (inr less) = omega (arith, b.0, less)

-- the first row is of the layer; or there is no such row, and all leaves are lower
first_by : (sub : List Leaf → Option CidParts) (n : ℕ) (e : Leaf) (es : List Leaf) (b : Bool) → nat_lt e.layer n ≡ b → IsLeaf e → e.layer < suc n
    → (first_layer (rows_over sub n [] es) ≡ n) ⊎ ((rows_over sub n [] es ≡ []) × AreBelow n es)
    → (first_layer (if b then rows_over sub n [] es else row_at [] e (sub (lower_run n es)) ∷ rows_over sub n e.key es) ≡ n)
    ⊎ (((if b then rows_over sub n [] es else row_at [] e (sub (lower_run n es)) ∷ rows_over sub n e.key es) ≡ []) × AreBelow n (e ∷ es))
first_by sub n e es true is l within (inl h) = inl h
first_by sub n e es true is l within (inr h) = inr (h.0, (ltb-true e.layer n is, h.1))
first_by sub n e es false is l within h = let top : e.layer ≡ n = omega (arith, ltb-false e.layer n is, within) in inl (sym l.2 ∙ top)

first_row : (sub : List Leaf → Option CidParts) (n : ℕ) (es : List Leaf) → AllByRecursion IsLeaf es → AreBelow (suc n) es
    → (first_layer (rows_over sub n [] es) ≡ n) ⊎ ((rows_over sub n [] es ≡ []) × AreBelow n es)
first_row sub n [] l b = inr (refl, tt)
first_row sub n (e ∷ es) l b = first_by sub n e es (nat_lt e.layer n) refl l.0 b.0 (first_row sub n es l.1 b.1)

root_layer : (es : List Leaf) → AllByRecursion IsLeaf es → first_layer (rows_over (subtree (top_layer es)) (top_layer es) [] es) ≡ top_layer es
root_layer es l = elim (first_row (subtree (top_layer es)) (top_layer es) es l (within_top (top_layer es) es (omega arith))) [
  | inl is ↦ is
  | inr none ↦ elim (below_top (top_layer es) es none.1) [
    | inl empty ↦ ap first_layer none.0 ∙ sym (ap top_layer empty)
    | inr less ↦ absurd (omega (arith, less))
  ]
]

among_once : {X : Type 0} (x : X) (xs ys : List X) → Among x (xs ++ ys) → Among x xs ⊎ Among x ys
among_once x [] ys m = inr m
among_once x (y ∷ xs) ys (inl is) = inl (inl is)
among_once x (y ∷ xs) ys (inr m) = elim (among_once x xs ys m) [
  | inl a ↦ inl (inr a)
  | inr b ↦ inr b
]

either : {X : Type 0} (x : X) (xs : List X) → Among x (xs ++ xs) → Among x xs
either x xs m = elim (among_once x xs xs m) [
  | inl a ↦ a
  | inr b ↦ b
]

-- names that bind once bind twice
binds_twice : (stored : Stored) (all : List Section) → NamesBind stored all → NamesBind stored (all ++ all)
binds_twice stored all bind = record {
  of_nodes = λ s t m k. bind.of_nodes s t (either s all m) (either t all k);
  of_stored = λ s b m. bind.of_stored s b (either s all m);
}

root_stored : (other : Stored) (es : List Entry) → AreStored other (nodes_of es) → AreStored other (nodes (top_layer (leaves es)) (leaves es))
unfolding nodes_of
root_stored other es s = s

pub opened_fill : OpenedFill
unfolding mst
opened_fill stored root ps es (p, at, opened) whole bind =
    let twice = binds_twice stored (nodes_of es) bind in
    let other = held (nodes_of es ++ nodes_of es) in
    let agree = held_agrees stored es es twice in
    let there = root_stored other es (first_held stored es es twice root whole).all in
    let valid = whole.0 in
    let ls = leaves es in
    let n = top_layer ls in
    let l : AreLeaves ls = (each_leaf es valid.keys valid.values, omega (arith, leaves_counted es, valid.count)) in
    let same = same_parts stored other agree n root p ls l there at (sym whole.1) in
    let layer : first_layer p.rows ≡ n = ap (λ q. first_layer q.rows) same ∙ root_layer ls l.0 in
    let opened = subst (λ m. OpensNode (OpensBelow stored m) m p ps) layer opened in
    subst (Fills ps) (entries_again es)
    (node_fills other n (OpensBelow stored n) (below_fills stored other agree n) ps ls l there (subst (λ x. OpensNode (OpensBelow stored n) n x ps) same opened))
