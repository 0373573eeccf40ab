-- What callers in other languages get for blocks of DAG-PB and their data model.
use Rattle.std.specs.Prelude.{◌≡◌, ◌⊎◌, ℕ, ◌-◌, ◌^◌, min, ℤ, pos, negsuc, List, length}
use Rattle.lent_memory.specs.Puts.{with_front}
use Rattle.ipld_tree.specs.Tree.{Tree}
use Rattle.ipld_tree.specs.Spelling.{spelling}
use Rattle.dag_pb.specs.Node.{NodeParts, IsNode, node_links}
use Rattle.dag_pb.specs.Causes.{IsNoNode}
use Rattle.dag_pb.specs.Spelling.{node_spelling, AreSorted}
use Rattle.dag_pb.specs.declared.error.PbCause.{PbCause}
use Rattle.dag_pb.specs.declared.error.PbCause.TheVariants as causes
use Rattle.dag_pb.specs.declared.error.PbError.{PbError}
use Rattle.dagcbor_decode.specs.Blocks.{IsBlock}
use Rattle.dag_pb_model.specs.Model.{node_model, IsNodeOf}
use Rattle.dag_pb_model.specs.Refusals.{HasNoModel}
use Rattle.dag_pb_model.specs.Written.{IsNotPut}
use Rattle.dag_pb_model.specs.declared.error.ModelError.{ModelError}
use Rattle.dag_pb_model.specs.declared.error.ModelError.TheVariants as unread
use Rattle.dag_pb_model.specs.declared.node_error.NodeError.{NodeError}
use Rattle.dag_pb_model.specs.declared.node_error.NodeError.TheVariants as unwritten
use Rattle.abi_calls.specs.Codes.{refusal_code}
use Rattle.abi_calls.specs.CidTexts.{room_code, PutsNone}
use Rattle.abi_calls.specs.Packed.{packed_cids}

-- the number of why bytes are not a block of DAG-PB
abbrev pub pb_code : PbCause → ℤ
pb_code causes.Truncated = negsuc 52
pb_code causes.InvalidVarint = negsuc 53
pb_code (causes.UnexpectedField tag) = negsuc 54
pb_code causes.NoHash = negsuc 55
pb_code (causes.InvalidCid e) = negsuc 56

-- the number of why bytes have no data model, and the place, which is 0 for a name that is not a
-- text
abbrev pub IsModelRefusal : ModelError → ℕ → ℤ → Type 0
IsModelRefusal (unread.NoNode e) place code = (place ≡ e.place) × (code ≡ pb_code e.cause)
IsModelRefusal unread.NameNotText place code = (place ≡ 0) × (code ≡ negsuc 57)

-- the number of why data is not written as a node: that of the refusal if the bytes are not a block
abbrev pub node_refusal_code : NodeError → ℤ
node_refusal_code (unwritten.NoBlock e) = refusal_code e
node_refusal_code unwritten.NotANode = negsuc 58
node_refusal_code unwritten.UnsortedLinks = negsuc 59

-- The bytes are counted, up to 2 ^ 64 - 1. If they fit, they are put at the front of the memory,
-- and the number is 0; if not, the memory stays, and it is -21.
pub record IsPutFront (s old new : List ℕ) (needed : ℕ) (code : ℤ) : Type 0 where
  pub counted : needed ≡ min (length s) (2 ^ 64 - 1)
  pub stand : new ≡ with_front s old
  pub told : code ≡ room_code (pos 0) s old

-- the links of the node, packed, are counted, and put if they all fit; or the bytes are not a node,
-- for a cause that holds
abbrev pub IsNodeLinksAnswer : List ℕ → List ℕ → List ℕ → ℕ → ℕ → ℤ → Type 0
IsNodeLinksAnswer b old new needed place code =
    ((node : NodeParts) × IsNode b node × (needed ≡ length (packed_cids (node_links node)))
    × (new ≡ with_front (packed_cids (node_links node)) old) × (place ≡ 0) × (code ≡ pos 0))
    ⊎ ((e : PbError) × IsNoNode b e × PutsNone old new needed × (place ≡ e.place)
    × (code ≡ pb_code e.cause))

-- the block of the node's data model is put; or the bytes have none, for a cause that holds
abbrev pub IsFromNodeAnswer : List ℕ → List ℕ → List ℕ → ℕ → ℕ → ℤ → Type 0
IsFromNodeAnswer b old new needed place code =
    ((t : Tree) × IsNodeOf b t × IsPutFront (spelling t) old new needed code × (place ≡ 0))
    ⊎ ((e : ModelError) × HasNoModel b e × PutsNone old new needed × IsModelRefusal e place code)

-- the block of the node is put whose data model is the block's; or there is none, for a cause that
-- holds
abbrev pub IsToNodeAnswer : List ℕ → List ℕ → List ℕ → ℕ → ℤ → Type 0
IsToNodeAnswer b old new needed code =
    ((node : NodeParts) × IsBlock b (node_model node) × AreSorted node.links
    × IsPutFront (node_spelling node) old new needed code)
    ⊎ ((e : NodeError) × IsNotPut b e × PutsNone old new needed × (code ≡ node_refusal_code e))
