-- What a block is.
use Rattle.std.specs.Prelude.{◌≡◌, ◌≢◌, ◌⊎◌, ℕ, ◌^◌, nat_lt, List, length, true, if◌then◌else◌, Option, None, Some}
use Rattle.files_unix_fs.specs.declared.entity.Entity.{Entity}
use Rattle.files_unix_fs.specs.declared.entity.Entity.TheVariants.{File, Directory, Shard, Symlink, Metadata}
use Rattle.files_unix_fs.specs.declared.kind.Kind.TheVariants as kind
use Rattle.files_unix_fs.specs.declared.node.NodeError.TheVariants as node
use Rattle.files_unix_fs.specs.declared.file_error.FileError.{FileError}
use Rattle.files_unix_fs.specs.declared.file_error.FileError.TheVariants.{OtherCodec, NotANode, NoData, NoMessage}
use Rattle.files_unix_fs.specs.UnixFs.{UnixFsParts}
use Rattle.files_unix_fs.specs.Nodes.{or_nothing}
use Rattle.files_unix_fs.specs.Messages.{Says, SaysNothing}
use Rattle.files_unix_fs.specs.Files.{total_of, is_file}

-- the number, if it is below 2 ^ 64
abbrev pub fitting : ℕ → Option ℕ
fitting n = if nat_lt n (2 ^ 64) then Some n else None

-- the size that is announced, or else the sum of the parts
abbrev pub size_or : Option ℕ → ℕ → Option ℕ
size_or (Some n) total = Some n
size_or None total = fitting total

-- a node with this message is this entity
abbrev pub IsSaid : Entity → UnixFsParts → Type 0
IsSaid (File size) parts = (is_file parts.kind ≡ true) × (size ≡ size_or parts.file_size (total_of parts))
IsSaid Directory parts = parts.kind ≡ kind.Directory
IsSaid Shard parts = parts.kind ≡ kind.HamtShard
IsSaid (Symlink to) parts = (parts.kind ≡ kind.Symlink) × (to.now ≡ or_nothing parts.content)
IsSaid Metadata parts = parts.kind ≡ kind.Metadata

-- The block of this codec is this entity: raw (55) is a file; dag-pb (70) is what its node says.
abbrev pub IsEntity : Entity → ℕ → List ℕ → Type 0
IsEntity entity codec block =
    ((codec ≡ 0x55) × (entity ≡ File (Some (length block))))
    ⊎ ((codec ≡ 0x70) × ((parts : UnixFsParts) × Says block parts × IsSaid entity parts))

-- why the block is not such an entity
abbrev pub IsNoEntity : FileError → ℕ → List ℕ → Type 0
IsNoEntity (OtherCodec other) codec block = (other ≡ codec) × (codec ≢ 0x55) × (codec ≢ 0x70)
IsNoEntity (NotANode e) codec block = (codec ≡ 0x70) × SaysNothing (node.NotANode e) block
IsNoEntity NoData codec block = (codec ≡ 0x70) × SaysNothing node.NoData block
IsNoEntity (NoMessage e) codec block = (codec ≡ 0x70) × SaysNothing (node.NoMessage e) block
IsNoEntity _ codec block = ⊥
