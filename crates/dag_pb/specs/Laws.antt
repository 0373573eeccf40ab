-- Laws of all nodes.
use Rattle.std.specs.Prelude.{◌≡◌, ℕ, List}
use Rattle.dag_pb.specs.Node.{NodeParts, IsNode}
use Rattle.dag_pb.specs.Spelling.{node_spelling, IsSpellable}

-- The encoded bytes of a node are a block of that node.
abbrev pub SpelledNodesAreRead : Type 0
SpelledNodesAreRead = (node : NodeParts) → IsSpellable node → IsNode (node_spelling node) node

-- The same bytes are never the blocks of two different nodes.
abbrev pub NodesAreUnique : Type 0
NodesAreUnique = (b : List ℕ) (node other : NodeParts) → IsNode b node → IsNode b other → node ≡ other

-- No two nodes are encoded as the same bytes.
abbrev pub NoTwoShareASpelling : Type 0
NoTwoShareASpelling = (node other : NodeParts) → IsSpellable node → IsSpellable other
    → node_spelling node ≡ node_spelling other → node ≡ other
