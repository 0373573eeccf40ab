-- The trees that are written of nodes.
use Rattle.std.proofs.Common.{◌≡◌, ℕ, List, [], ◌∷◌, map, codes, pos, refl, ap, ◌∙◌, subst, Option, Some, None, option_map}
use Rattle.ipld_tree.specs.Cid.{CidParts, cid_bytes}
use Rattle.ipld_tree.specs.Tree.{Tree, integer, bytes, list, link, items_of, all_some, list_tree, entries_tree}
use Rattle.ipld_tree.specs.Spelling.{IsSpelling}
use Rattle.dagcbor_write.specs.Trees.{field, option_tree}
use Rattle.dagcbor_write.specs.Answers.{AreSpellingOf}
use Rattle.atproto_mst.specs.Trees.{row_tree, node_map}
use Rattle.atproto_mst.specs.Nodes.{tree_of_row, tree_of_node, row_told, node_told}
use Rattle.types_repository.specs.declared.repository.Entry.{Entry}
use Rattle.types_repository.specs.declared.repository.Node.{Node}

abbrev pub link_written : Option CidParts → Option Tree
link_written t = option_tree (λ c. Some (link (cid_bytes c))) t

abbrev pub parts_written : ℕ → List ℕ → CidParts → Option CidParts → Option Tree
parts_written p k v t = entries_tree (field (codes "k") (Some (bytes k)) ∷ field (codes "p") (Some (integer (pos p)))
    ∷ field (codes "t") (link_written t) ∷ field (codes "v") (Some (link (cid_bytes v))) ∷ [])

parts_are : (p : ℕ) (k : List ℕ) (v : CidParts) (t : Option CidParts) → parts_written p k v t ≡ Some (row_tree p k v t)
parts_are p k v None = refl
parts_are p k v (Some c) = refl

abbrev pub row_written : Entry → Option Tree
row_written r = parts_written r.p r.k.0.items r.v r.t

rows_are : (rs : List Entry) → all_some (map row_written rs) ≡ Some (map tree_of_row (map row_told rs))
rows_are [] = refl
rows_are (r ∷ rs) =
    ap (λ o. all_some (o ∷ map row_written rs)) (parts_are r.p r.k.0.items r.v r.t)
    ∙ ap (λ o. option_map (λ more. tree_of_row (row_told r) ∷ more) o) (rows_are rs)

abbrev pub node_written : List Entry → Option CidParts → Option Tree
node_written rs l = entries_tree (field (codes "e") (list_tree (map row_written rs)) ∷ field (codes "l") (link_written l) ∷ [])

map_written : (es : List Tree) (l : Option CidParts) → entries_tree (field (codes "e") (Some (list (items_of es))) ∷ field (codes "l") (link_written l) ∷ []) ≡ Some (node_map es l)
map_written es None = refl
map_written es (Some c) = refl

node_is : (n : Node) → node_written n.e.items n.l ≡ Some (tree_of_node (node_told n))
node_is n =
    ap (λ o. entries_tree (field (codes "e") (option_map (λ found. list (items_of found)) o) ∷ field (codes "l") (link_written n.l) ∷ [])) (rows_are n.e.items)
    ∙ map_written (map tree_of_row (map row_told n.e.items)) n.l

pub node_spelled : (n : Node) (v : List ℕ) → AreSpellingOf (node_written n.e.items n.l) v → IsSpelling v (tree_of_node (node_told n))
node_spelled n v h = subst (λ o. AreSpellingOf o v) (node_is n) h
