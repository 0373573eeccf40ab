-- The one form of a node that encoders write (DAG-PB specification): the links and then the data,
-- each number in its shortest form, and no bytes for parts that are left out.
use Rattle.std.specs.Prelude.{◌≢◌, ℕ, ◌^◌, ◌<◌, List, [], ◌∷◌, ◌++◌, Option, None, Some, length, unwrap_or, IfSome, flat_map, IsSortedByKey}
use Rattle.std.specs.List.{AllByRecursion}
use Rattle.std.specs.Ordering.{nat_cmp}
use Rattle.std.specs.Cmp.Lexicographic.{slice_cmp}
use Rattle.ipld_tree.specs.Cid.{varint, AreCidParts, cid_bytes}
use Rattle.dag_pb.specs.Node.{LinkParts, NodeParts}
use Rattle.dag_pb.specs.declared.error.PbEncodeError.{PbEncodeError}
use Rattle.dag_pb.specs.declared.error.PbEncodeError.TheVariants.{OutOfMemory, UnsortedLinks}

-- ---- fields

-- the length of the bytes, and the bytes
abbrev pub counted : List ℕ → List ℕ
counted b = varint (length b) ++ b

-- a field of bytes: its tag, the length of the bytes, and the bytes
abbrev pub bytes_field : ℕ → List ℕ → List ℕ
bytes_field tag inner = tag ∷ counted inner

-- the field of a name, of a size and of data: no bytes if it is left out
abbrev pub name_field : Option (List ℕ) → List ℕ
name_field None = []
name_field (Some name) = bytes_field 0x12 name

abbrev pub tsize_field : Option ℕ → List ℕ
tsize_field None = []
tsize_field (Some tsize) = 0x18 ∷ varint tsize

abbrev pub data_field_bytes : Option (List ℕ) → List ℕ
data_field_bytes None = []
data_field_bytes (Some inner) = bytes_field 0x0a inner

-- ---- links and nodes

-- the message of a link: the CID, the name and the size
abbrev pub link_message : LinkParts → List ℕ
link_message link =
    bytes_field 0x0a (cid_bytes link.hash) ++ (name_field link.name ++ tsize_field link.tsize)

-- the field of a link
abbrev pub link_spelling : LinkParts → List ℕ
link_spelling link = bytes_field 0x12 (link_message link)

-- the block of a node
abbrev pub node_spelling : NodeParts → List ℕ
node_spelling node = flat_map link_spelling node.links ++ data_field_bytes node.«data»

-- ---- which nodes can be encoded

-- the name that a link is sorted by: the empty one if it has none
abbrev pub sort_name : LinkParts → List ℕ
sort_name link = unwrap_or link.name []

-- the links are sorted by the bytes of their names; those with the same name have any order
abbrev pub AreSorted : List LinkParts → Type 0
AreSorted = IsSortedByKey sort_name (slice_cmp nat_cmp)

-- the link has a CID, and its size and the length of its message are below 2 ^ 64
pub record IsSpellableLink (link : LinkParts) : Type 0 where
  pub valid : AreCidParts link.hash
  pub size : IfSome link.tsize (λ tsize. tsize < 2 ^ 64)
  pub fits : length (link_message link) < 2 ^ 64

-- all links can be encoded, and the length of the data is below 2 ^ 64
pub record IsSpellable (node : NodeParts) : Type 0 where
  pub links : AllByRecursion IsSpellableLink node.links
  pub inner : IfSome node.«data» (λ inner. length inner < 2 ^ 64)

-- ---- which nodes are not encoded

-- the node is not encoded, for this cause
abbrev pub IsNotWritten : PbEncodeError → NodeParts → Type 0
IsNotWritten UnsortedLinks node = ¬ AreSorted node.links
IsNotWritten OutOfMemory node = AreSorted node.links × (node_spelling node ≢ [])
