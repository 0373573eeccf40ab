-- The spelling of a node's data model, part by part.
use Rattle.std.specs.Prelude.{◌≡◌, ℕ, pos, ◌+◌, ◌^◌, ◌<◌, List, ◌++◌, length, Option, None, Some, option_map, map, codes, MatchOption, IfSome, IsUtf8}
use Rattle.dagcbor_core.specs.Head.{head}
use Rattle.ipld_tree.specs.Cid.{cid_bytes}
use Rattle.ipld_tree.specs.Tree.{Tree, integer, text, bytes, link, items_of, entries_of}
use Rattle.ipld_tree.specs.Spelling.{spelling, text_spelling, entries_spelling, items_spelling}
use Rattle.dag_pb.specs.Node.{LinkParts, NodeParts, Field, link_field, data_field}
use Rattle.dag_pb_model.specs.Model.{optional_entry, link_model}
use Rattle.dag_pb_model.specs.declared.measure.Measure.{Measure}

-- the entry of a part; no bytes if it is left out
abbrev pub part_form : List ℕ → Option Tree → List ℕ
part_form key part = entries_spelling (entries_of (optional_entry key part))

-- the entries of a name, a size and data
abbrev pub name_form : Option (List ℕ) → List ℕ
name_form name = part_form (codes "Name") (option_map text name)

abbrev pub size_form : Option ℕ → List ℕ
size_form tsize = part_form (codes "Tsize") (option_map (λ n. integer (pos n)) tsize)

abbrev pub data_form : Option (List ℕ) → List ℕ
data_form inner = part_form (codes "Data") (option_map bytes inner)

-- the number of entries of such a part: 0 if it is left out
abbrev pub part_count : {A : Type 0} → Option A → ℕ
part_count None = 0
part_count (Some a) = 1

-- a link, and links one after another
abbrev pub written_link : LinkParts → List ℕ
written_link l = head 5 (1 + (part_count l.name + part_count l.tsize))
    ++ (text_spelling (codes "Hash") ++ (spelling (link (cid_bytes l.hash))
    ++ (name_form l.name ++ size_form l.tsize)))

abbrev pub links_form : List LinkParts → List ℕ
links_form links = items_spelling (items_of (map link_model links))

-- a node
abbrev pub written_node : NodeParts → List ℕ
written_node node = head 5 (1 + part_count node.«data»)
    ++ (data_form node.«data» ++ (text_spelling (codes "Links")
    ++ (head 4 (length node.links) ++ links_form node.links)))

-- the measure is that of this node
abbrev pub IsMeasured : Measure → NodeParts → Type 0
IsMeasured m node = (option_map (λ s. s.now) m.«data» ≡ node.«data»)
    × (m.links ≡ length node.links) × (m.length ≡ length (links_form node.links))

-- the field was added to the measure; `None` if it is a link whose name is not UTF-8
abbrev pub Adds : Measure → Field → Option Measure → Type 0
Adds m (link_field l) result = MatchOption result (¬ IfSome l.name IsUtf8)
    (λ n. IfSome l.name IsUtf8 × (n.«data» ≡ m.«data») × (n.links ≡ m.links + 1)
    × (n.length ≡ m.length + length (spelling (link_model l))) × (n.length < m.length + 2 ^ 64))
Adds m (data_field inner) result = MatchOption result ⊥
    (λ n. (option_map (λ s. s.now) n.«data» ≡ Some inner) × (n.links ≡ m.links) × (n.length ≡ m.length))
