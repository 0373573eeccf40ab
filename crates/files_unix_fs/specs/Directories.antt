-- Directories that are one node: each link is an entry (UnixFS specification, `Directory`).
use Rattle.std.specs.Prelude.{◌≡◌, ◌≢◌, ℕ, Bool, List, [], ◌∷◌, bytes_eq, if◌then◌else◌, Option, None, Some}
use Rattle.ipld_tree.specs.Cid.{CidParts}
use Rattle.dag_pb.specs.Node.{LinkParts}
use Rattle.files_unix_fs.specs.declared.kind.Kind.TheVariants.{Directory, HamtShard}
use Rattle.files_unix_fs.specs.declared.node.NodeError.TheVariants as node
use Rattle.files_unix_fs.specs.declared.directory_error.DirectoryError.{DirectoryError}
use Rattle.files_unix_fs.specs.declared.directory_error.DirectoryError.TheVariants.{NotANode, NoData, NoMessage, InShards, NotADirectory}
use Rattle.files_unix_fs.specs.UnixFs.{UnixFsParts}
use Rattle.files_unix_fs.specs.Nodes.{or_nothing}
use Rattle.files_unix_fs.specs.Messages.{Says, SaysNothing}

-- the link has this name; a link without a name has the empty one
abbrev pub has_name : List ℕ → LinkParts → Bool
has_name name link = bytes_eq (or_nothing link.name) name

-- the CID of the first link with this name
abbrev pub link_named : List ℕ → List LinkParts → Option CidParts
link_named name [] = None
link_named name (link ∷ more) = if has_name name link then Some link.hash else link_named name more

-- the block is a node whose message says that it is a directory
abbrev pub IsDirectory : List ℕ → Type 0
IsDirectory block = (parts : UnixFsParts) × Says block parts × (parts.kind ≡ Directory)

-- why the block is not a directory, or not one that can be read
abbrev pub IsNoDirectory : DirectoryError → List ℕ → Type 0
IsNoDirectory (NotANode e) block = SaysNothing (node.NotANode e) block
IsNoDirectory NoData block = SaysNothing node.NoData block
IsNoDirectory (NoMessage e) block = SaysNothing (node.NoMessage e) block
IsNoDirectory InShards block = (parts : UnixFsParts) × Says block parts × (parts.kind ≡ HamtShard)
IsNoDirectory (NotADirectory kind) block = (parts : UnixFsParts) × Says block parts
    × (kind ≡ parts.kind) × (kind ≢ Directory) × (kind ≢ HamtShard)
