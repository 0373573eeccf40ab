-- Nodes of DAG-PB, by their fields. If a block is a node (`dag_pb`, `IsNode`), these are its data
-- and the CIDs of its links (`ReadsNodes`).
use Rattle.std.specs.Prelude.{◌≡◌, ℕ, ◌==◌, List, [], ◌∷◌, if◌then◌else◌, Option, None, Some}
use Rattle.dag_pb.specs.Node.{NodeParts, IsNode, node_links}
use Rattle.files_unix_fs.specs.Fields.{Value, number, bytes, found_in}

abbrev pub first_of : List (List ℕ) → Option (List ℕ)
first_of [] = None
first_of (s ∷ more) = Some s

abbrev pub or_nothing : Option (List ℕ) → List ℕ
or_nothing None = []
or_nothing (Some s) = s

-- the bytes in field 1: the data of a node, or the CID of a link
abbrev pub data_in : ℕ × Value → List (List ℕ)
data_in (tag, number n) = []
data_in (tag, bytes s) = if tag == 0x0a then s ∷ [] else []

unfoldable pub data_of : List ℕ → Option (List ℕ)
data_of b = first_of (found_in data_in b)

-- the CID in field 2 of a node, which is a link
abbrev pub link_in : ℕ × Value → List (List ℕ)
link_in (tag, number n) = []
link_in (tag, bytes s) = if tag == 0x12 then or_nothing (data_of s) ∷ [] else []

unfoldable pub cids_of : List ℕ → List (List ℕ)
cids_of = found_in link_in

-- These data and CIDs are those of the node.
abbrev pub ReadsNodes : Type 0
ReadsNodes = (b : List ℕ) (node : NodeParts) → IsNode b node
    → (data_of b ≡ node.«data») × (cids_of b ≡ node_links node)
