-- Laws of all data models.
use Rattle.std.proofs.Common.{◌≡◌, ℕ, pos, List, [], ◌∷◌, ◌++◌, Option, None, Some, option_map, map, codes, refl, sym, ap, ap₂, ◌∙◌, append-nil}
use Rattle.ipld_tree.specs.Cid.{cid_bytes}
use Rattle.ipld_tree.specs.Tree.{Tree, integer, text, bytes, list, items_of, entries_of, links_of, items_links, entries_links}
use Rattle.dag_pb.specs.Node.{LinkParts, NodeParts, node_links}
use Rattle.dag_pb.proofs.Spelled.{node_unique}
use Rattle.dag_pb_model.specs.Model.{optional_entry, link_model, node_model, IsNodeOf}

pub model_unique : (b : List ℕ) (t u : Tree) → IsNodeOf b t → IsNodeOf b u → t ≡ u
model_unique b t u (node, is, names, e) (other, are, texts, f) = e ∙ ap node_model (node_unique b node other is are) ∙ sym f

-- ---- links

-- names and sizes have no links
link_ends : (name : Option (List ℕ)) (tsize : Option ℕ) → entries_links (entries_of (optional_entry (codes "Name") (option_map text name) ++ optional_entry (codes "Tsize") (option_map (λ n. integer (pos n)) tsize))) ≡ []
link_ends None None = refl
link_ends None (Some n) = refl
link_ends (Some s) None = refl
link_ends (Some s) (Some n) = refl

link_kept : (l : LinkParts) → links_of (link_model l) ≡ cid_bytes l.hash ∷ []
link_kept l = ap (λ z. cid_bytes l.hash ∷ z) (link_ends l.name l.tsize)

row_kept : (ls : List LinkParts) → items_links (items_of (map link_model ls)) ≡ map (λ l. cid_bytes l.hash) ls
row_kept [] = refl
row_kept (l ∷ ls) = ap₂ (λ a b. a ++ b) (link_kept l) (row_kept ls)

after_data : (inner : Option (List ℕ)) (t : Tree) → entries_links (entries_of (optional_entry (codes "Data") (option_map bytes inner) ++ ((codes "Links", t) ∷ []))) ≡ links_of t ++ []
after_data None t = refl
after_data (Some s) t = refl

pub links_kept : (node : NodeParts) → links_of (node_model node) ≡ node_links node
links_kept node =
    let links = list (items_of (map link_model node.links)) in
    after_data node.«data» links ∙ append-nil (links_of links) ∙ row_kept node.links
