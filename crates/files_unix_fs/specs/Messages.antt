-- The message of a block, about a file or a directory.
use Rattle.std.specs.Prelude.{◌≡◌, ℕ, List, None, Some, Ok, Err}
use Rattle.dag_pb.specs.Node.{HasNode}
use Rattle.dag_pb.specs.Causes.{IsNoNode}
use Rattle.files_unix_fs.specs.declared.node.NodeError.{NodeError}
use Rattle.files_unix_fs.specs.declared.node.NodeError.TheVariants.{NotANode, NoData, NoMessage}
use Rattle.files_unix_fs.specs.UnixFs.{UnixFsParts, unix_fs_of}
use Rattle.files_unix_fs.specs.Nodes.{data_of}

-- the block is a node, and its data are the message with these parts
pub record Says (block : List ℕ) (parts : UnixFsParts) : Type 0 where
  pub node : HasNode block
  pub message : List ℕ
  pub stands : data_of block ≡ Some message
  pub is : unix_fs_of message ≡ Ok parts

-- why the block has no such message
abbrev pub SaysNothing : NodeError → List ℕ → Type 0
SaysNothing (NotANode e) block = IsNoNode block e
SaysNothing NoData block = HasNode block × (data_of block ≡ None)
SaysNothing (NoMessage e) block = HasNode block
    × ((message : List ℕ) × (data_of block ≡ Some message) × (unix_fs_of message ≡ Err e))
