-- A block is that of one node.
use Rattle.std.proofs.Common.{◌≡◌, ℕ, List, [], ◌∷◌, ◌++◌, map, refl, sym, ap, ap₂, ◌∙◌, Option, Some, None}
use Rattle.std.specs.List.{AllByRecursion}
use Rattle.ipld_tree.specs.Cid.{CidParts, AreCidParts, cid_bytes}
use Rattle.ipld_tree.specs.Tree.{link, items_of}
use Rattle.ipld_tree.proofs.Cids.{cid_unique}
use Rattle.ipld_tree.proofs.Unique.{spelling_unique}
use Rattle.ipld_links.specs.Reaching.{Stored}
use Rattle.atproto_mst.specs.Trees.{link_tree}
use Rattle.atproto_mst.specs.Nodes.{NodeRow, NodeParts, tree_of_row, tree_of_node, IsCidIfAny, IsNode, IsNodeAt}

same_cids : (c d : CidParts) → AreCidParts c → AreCidParts d → link (cid_bytes c) ≡ link (cid_bytes d) → c ≡ d
same_cids c d p q e = let same : cid_bytes c ≡ cid_bytes d = cc e in cid_unique c d p q same

same_links : (a b : Option CidParts) → IsCidIfAny a → IsCidIfAny b → link_tree a ≡ link_tree b → a ≡ b
same_links None None p q e = refl
same_links None (Some d) p q e = absurd (cc e)
same_links (Some c) None p q e = absurd (cc e)
same_links (Some c) (Some d) p q e = ap (λ x. Some x) (same_cids c d p q e)

same_row : (r s : NodeRow) → AreCidParts r.value × IsCidIfAny r.after → AreCidParts s.value × IsCidIfAny s.after → tree_of_row r ≡ tree_of_row s → r ≡ s
same_row r s p q e =
    let rest : r.rest ≡ s.rest = cc e in
    let shared : r.shared ≡ s.shared = cc e in
    let after : link_tree r.after ≡ link_tree s.after = cc e in
    let value : link (cid_bytes r.value) ≡ link (cid_bytes s.value) = cc e in
    let value = same_cids r.value s.value p.0 q.0 value in
    let after = same_links r.after s.after p.1 q.1 after in
    λ i. record { shared = shared i; rest = rest i; value = value i; after = after i }

same_rows : (rs ss : List NodeRow) → AllByRecursion (λ r. AreCidParts r.value × IsCidIfAny r.after) rs → AllByRecursion (λ r. AreCidParts r.value × IsCidIfAny r.after) ss
    → items_of (map tree_of_row rs) ≡ items_of (map tree_of_row ss) → rs ≡ ss
same_rows [] [] p q e = refl
same_rows [] (s ∷ ss) p q e = absurd (cc e)
same_rows (r ∷ rs) [] p q e = absurd (cc e)
same_rows (r ∷ rs) (s ∷ ss) p q e =
    let first : tree_of_row r ≡ tree_of_row s = cc e in
    let more : items_of (map tree_of_row rs) ≡ items_of (map tree_of_row ss) = cc e in
    ap₂ (λ x xs. x ∷ xs) (same_row r s p.0 q.0 first) (same_rows rs ss p.1 q.1 more)

pub same_node : (b : List ℕ) (p q : NodeParts) → IsNode b p → IsNode b q → p ≡ q
same_node b p q h k =
    let tree = (spelling_unique (tree_of_node p) (tree_of_node q) [] [] h.spelled.spellable k.spelled.spellable (ap (λ x. x ++ []) (sym h.spelled.is ∙ k.spelled.is))).0 in
    let rows : items_of (map tree_of_row p.rows) ≡ items_of (map tree_of_row q.rows) = cc tree in
    let left : link_tree p.left ≡ link_tree q.left = cc tree in
    let rows = same_rows p.rows q.rows h.rows k.rows rows in
    let left = same_links p.left q.left h.left k.left left in
    λ i. record { left = left i; rows = rows i }

-- under a name one node is stored
pub same_node_at : (stored : Stored) (name : CidParts) (p q : NodeParts) → IsNodeAt stored name p → IsNodeAt stored name q → p ≡ q
same_node_at stored name p q h k =
    let same : h.block ≡ k.block = cc (sym h.is ∙ k.is) in
    same_node k.block p q (rw same at h.node) k.node
