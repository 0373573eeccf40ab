-- Nodes and their data models, one for one.
use Rattle.std.proofs.Common.{◌≡◌, ℕ, List, [], ◌∷◌, Option, None, Some, IfSome, IsUtf8, refl, ap}
use Rattle.std.specs.List.{AllByRecursion}
use Rattle.ipld_tree.specs.Tree.{IsTree, AreItems}
use Rattle.dagcbor_decode.specs.Blocks.{IsBlock}
use Rattle.dag_pb.specs.Node.{LinkParts, NodeParts}
use Rattle.dag_pb.specs.Spelling.{node_spelling, IsSpellableLink, IsSpellable}
use Rattle.dag_pb.proofs.Spelled.{spelled_read}
use Rattle.dag_pb_model.specs.Model.{link_model, node_model, HasTextNames, IsNodeOf}
use Rattle.dag_pb_model.specs.Reading.{link_models}
use Rattle.dag_pb_model.proofs.NodeFilling.{same_link}

pub put_read : (node : NodeParts) → IsSpellable node → HasTextNames node → IsNodeOf (node_spelling node) (node_model node)
put_read node s names = (node, spelled_read node s, names, refl)

-- ---- names

link_name : (l : LinkParts) → IsTree (link_model l) → IfSome l.name IsUtf8
link_name l h = by l.name l.tsize h
  where
    by : (name : Option (List ℕ)) (tsize : Option ℕ) → IsTree (link_model (record { hash = l.hash; name = name; tsize = tsize })) → IfSome name IsUtf8
    by None tsize h = tt
    by (Some s) None h = h.3.1
    by (Some s) (Some n) h = h.3.1

link_names : (ls : List LinkParts) → AreItems (link_models ls) → AllByRecursion (λ l. IfSome l.name IsUtf8) ls
link_names [] h = tt
link_names (l ∷ ls) h = (link_name l h.0, link_names ls h.1)

node_names : (inner : Option (List ℕ)) (ls : List LinkParts) → IsTree (node_model (record { links = ls; «data» = inner })) → AllByRecursion (λ l. IfSome l.name IsUtf8) ls
node_names None ls h = link_names ls h.1
node_names (Some d) ls h = link_names ls h.3.1

pub text_names : (b : List ℕ) (node : NodeParts) → IsBlock b (node_model node) → HasTextNames node
text_names b node h = node_names node.«data» node.links h.0.well_formed

-- ---- one node

same_links : (ls ms : List LinkParts) → AllByRecursion IsSpellableLink ls → AllByRecursion IsSpellableLink ms → link_models ls ≡ link_models ms → ls ≡ ms
same_links [] [] s t e = refl
same_links [] (m ∷ ms) s t e = absurd (cc e)
same_links (l ∷ ls) [] s t e = absurd (cc e)
same_links (l ∷ ls) (m ∷ ms) s t e =
    let first = same_link l m s.0.valid t.0.valid (cc e) in
    let rest = same_links ls ms s.1 t.1 (cc e) in
    λ i. first i ∷ rest i

same_node : (i j : Option (List ℕ)) (ls ms : List LinkParts) → AllByRecursion IsSpellableLink ls → AllByRecursion IsSpellableLink ms → node_model (record { links = ls; «data» = i }) ≡ node_model (record { links = ms; «data» = j }) → (i ≡ j) × (ls ≡ ms)
same_node None None ls ms s t e = (refl, same_links ls ms s t (cc e))
same_node None (Some d) ls ms s t e = absurd (cc e)
same_node (Some d) None ls ms s t e = absurd (cc e)
same_node (Some c) (Some d) ls ms s t e = let inner : c ≡ d = cc e in (ap Some inner, same_links ls ms s t (cc e))

pub one_node : (node other : NodeParts) → IsSpellable node → IsSpellable other → node_model node ≡ node_model other → node ≡ other
one_node node other s t e =
    let p = same_node node.«data» other.«data» node.links other.links s.links t.links e in
    λ i. record { links = p.1 i; «data» = p.0 i }
