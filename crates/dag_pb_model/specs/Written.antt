-- Why the node of a data model is not written.
use Rattle.std.specs.Prelude.{◌≢◌, ℕ, List}
use Rattle.ipld_tree.specs.Tree.{Tree}
use Rattle.dagcbor_decode.specs.Blocks.{IsBlock}
use Rattle.dagcbor_decode.specs.Decode.{decode}
use Rattle.dagcbor_decode.specs.Verdicts.{IsRefusal}
use Rattle.dag_pb.specs.Node.{NodeParts}
use Rattle.dag_pb.specs.Spelling.{AreSorted}
use Rattle.dag_pb_model.specs.Model.{node_model}
use Rattle.dag_pb_model.specs.declared.node_error.NodeError.{NodeError}
use Rattle.dag_pb_model.specs.declared.node_error.NodeError.TheVariants.{NoBlock, NotANode, UnsortedLinks}

-- the bytes are not a block of DAG-CBOR; or not the data model of a node; or that of a node whose
-- links are not sorted by their names
abbrev pub IsNotPut : List ℕ → NodeError → Type 0
IsNotPut b (NoBlock e) = IsRefusal (decode b) e
IsNotPut b NotANode = (t : Tree) × IsBlock b t × ((node : NodeParts) → t ≢ node_model node)
IsNotPut b UnsortedLinks = (node : NodeParts) × IsBlock b (node_model node) × ¬ AreSorted node.links
