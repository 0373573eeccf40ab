-- The spelling of a node's data model, part by part.
use Rattle.std.proofs.Common.{◌≡◌, ℕ, pos, suc, ◌+◌, List, [], ◌∷◌, ◌++◌, length, Option, None, Some, option_map, map, codes, refl, sym, ap, ap₂, ◌∙◌, arith, append_assoc, append-nil}
use Rattle.dagcbor_core.specs.Head.{head}
use Rattle.ipld_tree.specs.Cid.{cid_bytes}
use Rattle.ipld_tree.specs.Tree.{Tree, integer, text, bytes, list, link, items_of, entries_of}
use Rattle.ipld_tree.specs.Spelling.{spelling, text_spelling, entry_count, item_count, entries_spelling}
use Rattle.dag_pb.specs.Node.{LinkParts, NodeParts}
use Rattle.dag_pb_model.specs.Model.{optional_entry, link_model, node_model}
use Rattle.dag_pb_model.specs.Forms.{part_form, data_form, part_count, written_link, links_form, written_node}

-- ---- entries in a row

entries_join : (ps qs : List (List ℕ × Tree)) → entries_spelling (entries_of (ps ++ qs)) ≡ entries_spelling (entries_of ps) ++ entries_spelling (entries_of qs)
entries_join [] qs = refl
entries_join (p ∷ ps) qs =
    let rest = entries_spelling (entries_of ps) in
    let following = entries_spelling (entries_of qs) in
    ap (λ z. text_spelling p.0 ++ (spelling p.1 ++ z)) (entries_join ps qs)
    ∙ ap (λ z. text_spelling p.0 ++ z) (sym (append_assoc (spelling p.1) rest following))
    ∙ sym (append_assoc (text_spelling p.0) (spelling p.1 ++ rest) following)

count_join : (ps qs : List (List ℕ × Tree)) → entry_count (entries_of (ps ++ qs)) ≡ entry_count (entries_of ps) + entry_count (entries_of qs)
count_join [] qs = omega arith
count_join (p ∷ ps) qs = omega (arith, count_join ps qs)

-- a part that is there, and how many entries it has
pub part_some : (key : List ℕ) (t : Tree) → part_form key (Some t) ≡ text_spelling key ++ spelling t
part_some key t = ap (λ z. text_spelling key ++ z) (append-nil (spelling t))

part_counted : {A : Type 0} (key : List ℕ) (f : A → Tree) (part : Option A) → entry_count (entries_of (optional_entry key (option_map f part))) ≡ part_count part
part_counted key f None = refl
part_counted key f (Some a) = refl

-- ---- links

pub link_written : (l : LinkParts) → spelling (link_model l) ≡ written_link l
link_written l =
    let name = optional_entry (codes "Name") (option_map text l.name) in
    let size = optional_entry (codes "Tsize") (option_map (λ n. integer (pos n)) l.tsize) in
    let counted : suc (entry_count (entries_of (name ++ size))) ≡ 1 + (part_count l.name + part_count l.tsize) =
    omega (arith, count_join name size, part_counted (codes "Name") text l.name, part_counted (codes "Tsize") (λ n. integer (pos n)) l.tsize) in
    ap₂ (λ n z. head 5 n ++ (text_spelling (codes "Hash") ++ (spelling (link (cid_bytes l.hash)) ++ z))) counted (entries_join name size)

-- ---- nodes

pub counted_items : (ls : List LinkParts) → item_count (items_of (map link_model ls)) ≡ length ls
counted_items [] = refl
counted_items (l ∷ ls) = ap suc (counted_items ls)

pub node_written : (node : NodeParts) → spelling (node_model node) ≡ written_node node
node_written node =
    let inner = optional_entry (codes "Data") (option_map bytes node.«data») in
    let links = list (items_of (map link_model node.links)) in
    let last : List (List ℕ × Tree) = (codes "Links", links) ∷ [] in
    let counted : entry_count (entries_of (inner ++ last)) ≡ 1 + part_count node.«data» =
    omega (arith, count_join inner last, part_counted (codes "Data") bytes node.«data») in
    ap₂ (λ n z. head 5 n ++ z) counted (entries_join inner last)
    ∙ ap (λ z. head 5 (1 + part_count node.«data») ++ (data_form node.«data» ++ (text_spelling (codes "Links") ++ z))) (append-nil (spelling links))
    ∙ ap (λ n. head 5 (1 + part_count node.«data») ++ (data_form node.«data» ++ (text_spelling (codes "Links") ++ (head 4 n ++ links_form node.links)))) (counted_items node.links)
