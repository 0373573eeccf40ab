-- What the block of a node shows.
use Rattle.std.proofs.Common.{◌≡◌, ℕ, ◌^◌, ◌<◌, ◌≤◌, List, [], ◌∷◌, ◌++◌, map, codes, pos, refl, sym, ap, ap₂, ◌∙◌, subst, arith, lt-ltb, Option, Some, None, option_map}
use Rattle.std.specs.Prelude.{if◌then◌else◌}
use Rattle.dagcbor_core.specs.Steps.{default_steps}
use Rattle.ipld_tree.specs.Cid.{CidParts, cid_bytes}
use Rattle.ipld_tree.specs.Tree.{Tree, integer, bytes, list, mapping, link, no_entries, entry, items_of, ordered_entries}
use Rattle.ipld_tree.specs.Spelling.{IsSpellable, AreSpellableItems, IsSpelling}
use Rattle.ipld_tree.proofs.Ordered.{KeyAndTree, distinct_from_test}
use Rattle.ipld_tree.proofs.Unique.{spelling_unique}
use Rattle.dagcbor_items.specs.Shapes.{leaf, owned_leaf, option_of, natural_below, view_bytes, view_link, view_unsigned}
use Rattle.dagcbor_read.specs.Collections.{view_items, need_items, list_of, all_of}
use Rattle.dagcbor_read.specs.Structs.{required_field, no_other_fields}
use Rattle.dagcbor_read.specs.Whole.{IsWhole, HoldsNoValue}
use Rattle.types_schema.proofs.ShownTrees.{IsShownBy, unsigned_shown, bytes_shown, link_shown, option_made, option_shown, list_shown, closed_shown, required_shown, struct_shown}
use Rattle.types_repository.specs.Repository.{EntryView, entry_shape, NodeView, node_shape}
use Rattle.types_repository.specs.declared.repository.Entry.{Entry}
use Rattle.types_repository.specs.declared.repository.Node.{Node}
use Rattle.atproto_mst.specs.Trees.{link_tree}
use Rattle.atproto_mst.specs.Nodes.{NodeRow, NodeParts, tree_of_row, tree_of_node, IsNode, row_told, node_told}

-- ---- one spelling

pub one_tree : (b : List ℕ) (t u : Tree) → IsSpelling b t → IsSpelling b u → t ≡ u
one_tree b t u p q = (spelling_unique t u [] [] p.spellable q.spellable (ap (λ x. x ++ []) (sym p.is ∙ q.is))).0

-- ---- what a node's tree shows

abbrev pub row_view : NodeRow → EntryView
row_view r = (r.shared, (r.rest, (cid_bytes r.value, (option_map cid_bytes r.after, tt))))

pub below : (n bound : ℕ) → n < bound → natural_below bound (pos n) ≡ Some n
below n bound h = ap (λ b. if b then Some n else None) (lt-ltb n bound h)

row_of_parts : (p : ℕ) (k : List ℕ) (v : CidParts) (t : Option CidParts) → p < 2 ^ 64
    → entry_shape.view (tree_of_row (record { shared = p; rest = k; value = v; after = t })) ≡ Some (p, (k, (cid_bytes v, (option_map cid_bytes t, tt))))
row_of_parts p k v None h = rw (below p (2 ^ 64) h) refl
row_of_parts p k v (Some c) h = rw (below p (2 ^ 64) h) refl

view_of_row : (r : NodeRow) → IsSpellable (tree_of_row r) → entry_shape.view (tree_of_row r) ≡ Some (row_view r)
view_of_row r h = row_of_parts r.shared r.rest r.value r.after h.1.2.1

need_of_parts : (p : ℕ) (k : List ℕ) (v : CidParts) (t : Option CidParts)
    → entry_shape.need (tree_of_row (record { shared = p; rest = k; value = v; after = t })) ≤ 2
need_of_parts p k v None = omega arith
need_of_parts p k v (Some c) = omega arith

need_of_row : (r : NodeRow) → entry_shape.need (tree_of_row r) ≤ 2
need_of_row r = need_of_parts r.shared r.rest r.value r.after

view_of_rows : (rs : List NodeRow) → AreSpellableItems (items_of (map tree_of_row rs))
    → view_items entry_shape.view (items_of (map tree_of_row rs)) ≡ Some (map row_view rs)
view_of_rows [] h = refl
view_of_rows (r ∷ rs) h = rw (view_of_row r h.0) (rw (view_of_rows rs h.1) refl)

need_of_rows : (rs : List NodeRow) → need_items entry_shape.need (items_of (map tree_of_row rs)) ≤ 2
need_of_rows [] = omega arith
need_of_rows (r ∷ rs) = omega (arith, need_of_row r, need_of_rows rs)

abbrev node_view : NodeParts → NodeView
node_view p = (option_map cid_bytes p.left, (map row_view p.rows, tt))

node_of_parts : (l : Option CidParts) (rs : List NodeRow) → AreSpellableItems (items_of (map tree_of_row rs))
    → node_shape.view (tree_of_node (record { left = l; rows = rs })) ≡ Some (option_map cid_bytes l, (map row_view rs, tt))
node_of_parts None rs h = rw (view_of_rows rs h) refl
node_of_parts (Some c) rs h = rw (view_of_rows rs h) refl

view_of_node : (p : NodeParts) → IsSpellable (tree_of_node p) → node_shape.view (tree_of_node p) ≡ Some (node_view p)
view_of_node p h = node_of_parts p.left p.rows h.1.1.1

node_need : (l : Option CidParts) (rs : List NodeRow) → node_shape.need (tree_of_node (record { left = l; rows = rs })) ≤ 256
node_need None rs = omega (arith, need_of_rows rs)
node_need (Some c) rs = omega (arith, need_of_rows rs)

need_of_node : (p : NodeParts) → node_shape.need (tree_of_node p) ≤ default_steps
need_of_node p = node_need p.left p.rows

-- a block that shows nothing is not a node
pub not_shown : (b : List ℕ) → HoldsNoValue node_shape default_steps b → (p : NodeParts) → ¬ IsNode b p
not_shown b h p n = h (node_view p) (tree_of_node p, n.spelled, view_of_node p n.spelled.spellable, need_of_node p)

-- ---- one tree shows a node

abbrev pub link_made : Option (List ℕ) → Tree
link_made = option_made (λ b. link b)

pub cid_shown : IsShownBy (leaf view_link) (λ b. link b)
cid_shown t v w h = link_shown t v h

pub cid_if_any_shown : IsShownBy (option_of (leaf view_link)) link_made
cid_if_any_shown = option_shown (leaf view_link) (λ b. link b) cid_shown

abbrev entry_pairs : EntryView → List KeyAndTree
entry_pairs v = (codes "p", integer (pos v.0)) ∷ (codes "k", bytes v.1.0) ∷ (codes "v", link v.1.1.0) ∷ (codes "t", link_made v.1.1.1.0) ∷ []

abbrev entry_made : EntryView → Tree
entry_made v = mapping (ordered_entries (entry_pairs v))

entry_shown : IsShownBy entry_shape entry_made
entry_shown = struct_shown (required_field (codes "p") (leaf (view_unsigned (2 ^ 64))) (required_field (codes "k") (owned_leaf view_bytes) (required_field (codes "v") (leaf view_link) (required_field (codes "t") (option_of (leaf view_link)) no_other_fields)))) entry_pairs
    (required_shown (codes "p") (leaf (view_unsigned (2 ^ 64))) (λ n. integer (pos n)) (λ t v w h. unsigned_shown (2 ^ 64) t v h)
    (required_field (codes "k") (owned_leaf view_bytes) (required_field (codes "v") (leaf view_link) (required_field (codes "t") (option_of (leaf view_link)) no_other_fields)))
    (λ v. (codes "k", bytes v.0) ∷ (codes "v", link v.1.0) ∷ (codes "t", link_made v.1.1.0) ∷ [])
    (required_shown (codes "k") (owned_leaf view_bytes) (λ b. bytes b) (λ t v w h. bytes_shown t v h)
    (required_field (codes "v") (leaf view_link) (required_field (codes "t") (option_of (leaf view_link)) no_other_fields))
    (λ v. (codes "v", link v.0) ∷ (codes "t", link_made v.1.0) ∷ [])
    (required_shown (codes "v") (leaf view_link) (λ b. link b) cid_shown (required_field (codes "t") (option_of (leaf view_link)) no_other_fields) (λ v. (codes "t", link_made v.0) ∷ [])
    (required_shown (codes "t") (option_of (leaf view_link)) link_made cid_if_any_shown no_other_fields (λ v. []) closed_shown))))
    (λ v. distinct_from_test (entry_pairs v) refl)

abbrev node_pairs : NodeView → List KeyAndTree
node_pairs v = (codes "l", link_made v.0) ∷ (codes "e", list (items_of (map entry_made v.1.0))) ∷ []

node_shown : IsShownBy node_shape (λ v. mapping (ordered_entries (node_pairs v)))
node_shown = struct_shown (required_field (codes "l") (option_of (leaf view_link)) (required_field (codes "e") (list_of (all_of entry_shape)) no_other_fields)) node_pairs
    (required_shown (codes "l") (option_of (leaf view_link)) link_made cid_if_any_shown (required_field (codes "e") (list_of (all_of entry_shape)) no_other_fields) (λ v. (codes "e", list (items_of (map entry_made v.0))) ∷ [])
    (required_shown (codes "e") (list_of (all_of entry_shape)) (λ vs. list (items_of (map entry_made vs))) (list_shown entry_shape entry_made entry_shown) no_other_fields (λ v. []) closed_shown))
    (λ v. distinct_from_test (node_pairs v) refl)

-- ---- the node that was told

abbrev pub entry_meaning : Entry → EntryView
entry_meaning e = (e.p, (e.k.0.items, (cid_bytes e.v, (option_map cid_bytes e.t, tt))))

abbrev pub node_meaning : Node → NodeView
node_meaning n = (option_map cid_bytes n.l, (map entry_meaning n.e.items, tt))

pub link_again : (l : Option CidParts) → link_made (option_map cid_bytes l) ≡ link_tree l
link_again None = refl
link_again (Some c) = refl

entry_again : (e : Entry) → entry_made (entry_meaning e) ≡ tree_of_row (row_told e)
entry_again e = ap (λ t. mapping (entry (codes "k") (bytes e.k.0.items) (entry (codes "p") (integer (pos e.p))
    (entry (codes "t") t (entry (codes "v") (link (cid_bytes e.v)) no_entries))))) (link_again e.t)

entries_again : (es : List Entry) → map entry_made (map entry_meaning es) ≡ map tree_of_row (map row_told es)
entries_again [] = refl
entries_again (e ∷ es) = ap₂ (λ t ts. t ∷ ts) (entry_again e) (entries_again es)

node_again : (n : Node) → mapping (ordered_entries (node_pairs (node_meaning n))) ≡ tree_of_node (node_told n)
node_again n = ap₂ (λ ts l. mapping (entry (codes "e") (list (items_of ts)) (entry (codes "l") l no_entries))) (entries_again n.e.items) (link_again n.l)

-- a block that shows a node is its spelling
pub node_read : (b : List ℕ) (n : Node) → IsWhole node_shape default_steps b (node_meaning n) → IsSpelling b (tree_of_node (node_told n))
node_read b n (t, spelled, shows, need) = subst (IsSpelling b) (node_shown t (node_meaning n) spelled.well_formed shows ∙ node_again n) spelled
