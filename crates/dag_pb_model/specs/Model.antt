-- The data model of a node (DAG-PB specification, "Logical format"), as paths and DAG-JSON see it.
use Rattle.std.specs.Prelude.{◌≡◌, ℕ, pos, List, [], ◌∷◌, ◌++◌, Option, None, Some, option_map, map, codes, IfSome, IsUtf8}
use Rattle.std.specs.List.{AllByRecursion}
use Rattle.ipld_tree.specs.Cid.{cid_bytes}
use Rattle.ipld_tree.specs.Tree.{Tree, integer, text, bytes, list, mapping, link, items_of, entries_of}
use Rattle.dag_pb.specs.Node.{LinkParts, NodeParts, IsNode}

-- the entry of a part; no entry if it is left out
abbrev pub optional_entry : List ℕ → Option Tree → List (List ℕ × Tree)
optional_entry key None = []
optional_entry key (Some t) = (key, t) ∷ []

-- a link: a map of `Hash`, and of `Name` and `Tsize` if it has them
abbrev pub link_model : LinkParts → Tree
link_model l = mapping (entries_of ((codes "Hash", link (cid_bytes l.hash))
    ∷ (optional_entry (codes "Name") (option_map text l.name)
    ++ optional_entry (codes "Tsize") (option_map (λ n. integer (pos n)) l.tsize))))

-- a node: a map of `Data`, if it has some, and of `Links`
abbrev pub node_model : NodeParts → Tree
node_model node = mapping (entries_of (optional_entry (codes "Data") (option_map bytes node.«data»)
    ++ ((codes "Links", list (items_of (map link_model node.links))) ∷ [])))

-- the names of its links are UTF-8, as the data model requires of text
abbrev pub HasTextNames : NodeParts → Type 0
HasTextNames node = AllByRecursion (λ l. IfSome l.name IsUtf8) node.links

-- the bytes are a block of DAG-PB, and the tree is its data model
abbrev pub IsNodeOf : List ℕ → Tree → Type 0
IsNodeOf b t = (node : NodeParts) × IsNode b node × HasTextNames node × (t ≡ node_model node)
