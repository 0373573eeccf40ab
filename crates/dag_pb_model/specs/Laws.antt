-- Laws of all data models.
use Rattle.std.specs.Prelude.{◌≡◌, ℕ, ◌^◌, ◌<◌, List, length}
use Rattle.ipld_tree.specs.Tree.{Tree, links_of}
use Rattle.ipld_tree.specs.Spelling.{spelling}
use Rattle.dagcbor_decode.specs.Blocks.{IsBlock}
use Rattle.dag_pb.specs.Node.{NodeParts, node_links}
use Rattle.dag_pb.specs.Spelling.{node_spelling, IsSpellable}
use Rattle.dag_pb_model.specs.Model.{node_model, HasTextNames, IsNodeOf}

-- The same bytes never have two different data models.
abbrev pub ModelsAreUnique : Type 0
ModelsAreUnique = (b : List ℕ) (t u : Tree) → IsNodeOf b t → IsNodeOf b u → t ≡ u

-- The links of a data model are those of its node.
abbrev pub ModelsKeepLinks : Type 0
ModelsKeepLinks = (node : NodeParts) → links_of (node_model node) ≡ node_links node

-- The spelling of a data model is a block of DAG-CBOR.
abbrev pub ModelsAreBlocks : Type 0
ModelsAreBlocks = (b : List ℕ) (t : Tree) → IsNodeOf b t → length b < 2 ^ 64
    → IsBlock (spelling t) t

-- The block that is written for a node has that node's data model.
abbrev pub PutNodesHaveTheirModels : Type 0
PutNodesHaveTheirModels = (node : NodeParts) → IsSpellable node → HasTextNames node
    → IsNodeOf (node_spelling node) (node_model node)

-- If the data model of a node is a block, the names of the node's links are UTF-8.
abbrev pub BlocksHaveTextNames : Type 0
BlocksHaveTextNames = (b : List ℕ) (node : NodeParts) → IsBlock b (node_model node)
    → HasTextNames node

-- No two nodes that can be encoded have the same data model, so one block is written for it.
abbrev pub ModelsAreOfOneNode : Type 0
ModelsAreOfOneNode = (node other : NodeParts) → IsSpellable node → IsSpellable other
    → node_model node ≡ node_model other → node ≡ other
