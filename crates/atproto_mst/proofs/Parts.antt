-- The nodes over leaves, by their parts.
use Rattle.std.proofs.Common.{◌≡◌, ℕ, zero, suc, ◌+◌, ◌^◌, ◌<◌, ◌≤◌, Bool, true, false, List, [], ◌∷◌, ◌++◌, map, length, take, drop, codes, Option, None, Some, refl, ap, arith, rules, subst, inr}
use Rattle.std.specs.Prelude.{if◌then◌else◌, nat_lt, ◌==◌}
use Rattle.std.specs.List.{AllByRecursion}
use Rattle.std.proofs.lemmas.Bool.{eqb-true}
use Rattle.std.proofs.lemmas.List.{length-drop}
use Rattle.dagcbor_decode.proofs.Fronts.{plain_text}
use Rattle.sha2.proofs.Facts256.{length-sha256}
use Rattle.ipld_tree.specs.Cid.{CidParts, AreCidParts, cid_bytes}
use Rattle.ipld_tree.specs.Tree.{IsTree, AreItems, items_of}
use Rattle.ipld_tree.specs.Spelling.{spelling, IsSpellable, AreSpellableItems, item_count}
use Rattle.ipld_tree.proofs.Cids.{cid_length}
use Rattle.ipld_links.specs.Names.{block_name}
use Rattle.atproto_mst.specs.Keys.{IsKey, key_layer}
use Rattle.atproto_mst.specs.Trees.{Leaf, lower_run, shared, link_tree, entry_tree, entry_trees, node_map, node_over, subtree, node}
use Rattle.atproto_mst.specs.Nodes.{NodeRow, NodeParts, tree_of_row, tree_of_node, IsCidIfAny, IsNode}

-- the row of a leaf after this key
abbrev pub row_at : List ℕ → Leaf → Option CidParts → NodeRow
row_at previous e t = record { shared = shared previous e.key; rest = drop (shared previous e.key) e.key; value = e.value; after = t }

-- the rows of a node of layer n, as `entry_trees`
abbrev pub rows_over : (List Leaf → Option CidParts) → ℕ → List ℕ → List Leaf → List NodeRow
rows_over sub n previous [] = []
rows_over sub n previous (e ∷ es) =
    if nat_lt e.layer n then rows_over sub n previous es
    else row_at previous e (sub (lower_run n es)) ∷ rows_over sub n e.key es

-- its parts
abbrev pub parts_over : (List Leaf → Option CidParts) → ℕ → List Leaf → NodeParts
parts_over sub n es = record { left = sub (lower_run n es); rows = rows_over sub n [] es }

trees_by : (sub : List Leaf → Option CidParts) (n : ℕ) (previous : List ℕ) (e : Leaf) (es : List Leaf) (t : Option CidParts) (b : Bool)
    → map tree_of_row (rows_over sub n previous es) ≡ entry_trees sub n previous es
    → map tree_of_row (rows_over sub n e.key es) ≡ entry_trees sub n e.key es
    → map tree_of_row (if b then rows_over sub n previous es else row_at previous e t ∷ rows_over sub n e.key es)
    ≡ (if b then entry_trees sub n previous es else entry_tree previous e t ∷ entry_trees sub n e.key es)
trees_by sub n previous e es t true h k = h
trees_by sub n previous e es t false h k = ap (λ ts. entry_tree previous e t ∷ ts) k

trees_of_rows : (sub : List Leaf → Option CidParts) (n : ℕ) (previous : List ℕ) (es : List Leaf) → map tree_of_row (rows_over sub n previous es) ≡ entry_trees sub n previous es
trees_of_rows sub n previous [] = refl
trees_of_rows sub n previous (e ∷ es) = trees_by sub n previous e es (sub (lower_run n es)) (nat_lt e.layer n) (trees_of_rows sub n previous es) (trees_of_rows sub n e.key es)

pub tree_of_parts : (sub : List Leaf → Option CidParts) (n : ℕ) (es : List Leaf) → tree_of_node (parts_over sub n es) ≡ node_over sub n es
tree_of_parts sub n es = ap (λ ts. node_map ts (sub (lower_run n es))) (trees_of_rows sub n [] es)

-- ---- the keys

first_by : (b c : ℕ) (n m : ℕ) (x : Bool) → n ≤ m → (if x then suc n else 0) ≤ suc m
first_by b c n m true h = omega arith
first_by b c n m false h = omega arith

pub shared_within_first : (s t : List ℕ) → shared s t ≤ length s
shared_within_first [] t = omega arith
shared_within_first (b ∷ bs) [] = omega arith
shared_within_first (b ∷ bs) (c ∷ cs) = first_by b c (shared bs cs) (length bs) (b == c) (shared_within_first bs cs)

pub shared_within_second : (s t : List ℕ) → shared s t ≤ length t
shared_within_second [] t = omega arith
shared_within_second (b ∷ bs) [] = omega arith
shared_within_second (b ∷ bs) (c ∷ cs) = first_by b c (shared bs cs) (length cs) (b == c) (shared_within_second bs cs)

key_by : (b c : ℕ) (bs cs : List ℕ) (x : Bool) → (x ≡ true → b ≡ c) → take (shared bs cs) bs ++ drop (shared bs cs) cs ≡ cs
    → take (if x then suc (shared bs cs) else 0) (b ∷ bs) ++ drop (if x then suc (shared bs cs) else 0) (c ∷ cs) ≡ c ∷ cs
key_by b c bs cs true same h = (λ i. same refl i ∷ h i)
key_by b c bs cs false same h = refl

-- a key is its shared front and the rest
pub key_again : (s t : List ℕ) → take (shared s t) s ++ drop (shared s t) t ≡ t
key_again [] t = refl
key_again (b ∷ bs) [] = refl
key_again (b ∷ bs) (c ∷ cs) = key_by b c bs cs (b == c) (eqb-true b c) (key_again bs cs)

-- ---- they are nodes

-- the row has a spelling
pub record IsGoodRow (r : NodeRow) : Type 0 where
  pub shared : r.shared < 2 ^ 64
  pub rest : length r.rest < 2 ^ 64
  pub value : AreCidParts r.value
  pub after : IsCidIfAny r.after

link_well_formed : (t : Option CidParts) → IsCidIfAny t → IsTree (link_tree t)
link_well_formed None h = tt
link_well_formed (Some c) h = (c, h, refl)

cid_spellable : (c : CidParts) → AreCidParts c → 1 + length (cid_bytes c) < 2 ^ 64
cid_spellable c h = omega (arith, cid_length (cid_bytes c) (c, h, refl))

link_spellable : (t : Option CidParts) → IsCidIfAny t → IsSpellable (link_tree t)
link_spellable None h = tt
link_spellable (Some c) h = cid_spellable c h

row_well_formed : (r : NodeRow) → IsGoodRow r → IsTree (tree_of_row r)
row_well_formed r h = (
  plain_text (codes "k") refl,
  tt,
  search rules,
  (plain_text (codes "p") refl, tt, search rules, (plain_text (codes "t") refl, link_well_formed r.after h.after, search rules, (plain_text (codes "v") refl, (r.value, h.value, refl), tt, tt))),
)

row_spellable : (r : NodeRow) → IsGoodRow r → IsSpellable (tree_of_row r)
row_spellable r h = (
  omega arith,
  (omega arith, h.rest, (omega arith, h.shared, (omega arith, link_spellable r.after h.after, (omega arith, cid_spellable r.value h.value, tt)))),
)

rows_well_formed : (rs : List NodeRow) → AllByRecursion IsGoodRow rs → AreItems (items_of (map tree_of_row rs))
rows_well_formed [] h = tt
rows_well_formed (r ∷ rs) h = (row_well_formed r h.0, rows_well_formed rs h.1)

rows_spellable : (rs : List NodeRow) → AllByRecursion IsGoodRow rs → AreSpellableItems (items_of (map tree_of_row rs))
rows_spellable [] h = tt
rows_spellable (r ∷ rs) h = (row_spellable r h.0, rows_spellable rs h.1)

rows_counted : (rs : List NodeRow) → item_count (items_of (map tree_of_row rs)) ≡ length rs
rows_counted [] = refl
rows_counted (r ∷ rs) = ap suc (rows_counted rs)

rows_linked : (rs : List NodeRow) → AllByRecursion IsGoodRow rs → AllByRecursion (λ r. AreCidParts r.value × IsCidIfAny r.after) rs
rows_linked [] h = tt
rows_linked (r ∷ rs) h = ((h.0.value, h.0.after), rows_linked rs h.1)

-- parts that have a spelling are those of the node with that spelling
pub parts_are_node : (p : NodeParts) → IsCidIfAny p.left → AllByRecursion IsGoodRow p.rows → length p.rows < 2 ^ 64 → IsNode (spelling (tree_of_node p)) p
parts_are_node p l rs count = record {
  spelled = record {
    well_formed = (plain_text (codes "e") refl, rows_well_formed p.rows rs, search rules, (plain_text (codes "l") refl, link_well_formed p.left l, tt, tt));
    spellable = (omega arith, (omega arith, (omega (arith, count, rows_counted p.rows), rows_spellable p.rows rs), (omega arith, link_spellable p.left l, tt)));
    is = refl;
  };
  left = l;
  rows = rows_linked p.rows rs;
}

-- ---- of leaves

-- a key, a CID, and the layer of the key
abbrev pub IsLeaf : Leaf → Type 0
IsLeaf e = IsKey e.key × AreCidParts e.value × (e.layer ≡ key_layer e.key)

row_good : (previous : List ℕ) (e : Leaf) (t : Option CidParts) → IsLeaf e → IsCidIfAny t → IsGoodRow (row_at previous e t)
row_good previous e t h k = record {
  shared = omega (arith, shared_within_second previous e.key, h.0.1);
  rest = omega (arith, length-drop (shared previous e.key) e.key, h.0.1);
  value = h.1;
  after = k;
}

rows_good_by : (previous : List ℕ) (e : Leaf) (t : Option CidParts) (rs more : List NodeRow) (b : Bool) → IsLeaf e → IsCidIfAny t
    → AllByRecursion IsGoodRow rs → AllByRecursion IsGoodRow more → AllByRecursion IsGoodRow (if b then rs else row_at previous e t ∷ more)
rows_good_by previous e t rs more true h k x y = x
rows_good_by previous e t rs more false h k x y = (row_good previous e t h k, y)

rows_good : (sub : List Leaf → Option CidParts) → ((es : List Leaf) → IsCidIfAny (sub es)) → (n : ℕ) (previous : List ℕ) (es : List Leaf) → AllByRecursion IsLeaf es → AllByRecursion IsGoodRow (rows_over sub n previous es)
rows_good sub named n previous [] h = tt
rows_good sub named n previous (e ∷ es) h = rows_good_by previous e (sub (lower_run n es)) (rows_over sub n previous es) (rows_over sub n e.key es) (nat_lt e.layer n) h.0 (named (lower_run n es)) (rows_good sub named n previous es h.1) (rows_good sub named n e.key es h.1)

count_by : (r : NodeRow) (rs more : List NodeRow) (k : ℕ) (b : Bool) → length rs ≤ k → length more ≤ k → length (if b then rs else r ∷ more) ≤ suc k
count_by r rs more k true h m = omega arith
count_by r rs more k false h m = omega arith

rows_fewer : (sub : List Leaf → Option CidParts) (n : ℕ) (previous : List ℕ) (es : List Leaf) → length (rows_over sub n previous es) ≤ length es
rows_fewer sub n previous [] = omega arith
rows_fewer sub n previous (e ∷ es) = count_by (row_at previous e (sub (lower_run n es))) (rows_over sub n previous es) (rows_over sub n e.key es) (length es) (nat_lt e.layer n) (rows_fewer sub n previous es) (rows_fewer sub n e.key es)

-- the name of a block is a CID
pub name_is_cid : (b : List ℕ) → AreCidParts (block_name b)
name_is_cid b = inr (refl, omega arith, omega arith, omega (arith, length-sha256 b))

pub subtree_is_cid : (n : ℕ) (es : List Leaf) → IsCidIfAny (subtree n es)
unfolding subtree
subtree_is_cid zero es = tt
subtree_is_cid (suc n) [] = tt
subtree_is_cid (suc n) (e ∷ es) = name_is_cid (spelling (node_over (subtree n) n (e ∷ es)))

-- the node of layer n is the node of these parts
pub node_is_node : (n : ℕ) (es : List Leaf) → AllByRecursion IsLeaf es → length es < 2 ^ 64 → IsNode (spelling (node n es)) (parts_over (subtree n) n es)
unfolding node
node_is_node n es h count = subst (λ t. IsNode (spelling t) (parts_over (subtree n) n es)) (tree_of_parts (subtree n) n es)
    (parts_are_node (parts_over (subtree n) n es) (subtree_is_cid n (lower_run n es)) (rows_good (subtree n) (subtree_is_cid n) n [] es h) (omega (arith, count, rows_fewer (subtree n) n [] es)))
