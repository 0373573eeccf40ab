-- Reading a file block by block, with a stack of wanted blocks.
use Rattle.std.specs.Prelude.{◌≡◌, ◌≢◌, ◌⊎◌, ℕ, ◌-◌, ◌<◌, List, [], ◌∷◌, ◌++◌, length, Option, None, Some, true, false}
use Rattle.std.specs.List.{concat, AllByRecursion}
use Rattle.ipld_tree.specs.Cid.{cid_bytes}
use Rattle.dag_pb.specs.Node.{Field, BeginsWithFields}
use Rattle.files_unix_fs.specs.declared.file_error.FileError.{FileError}
use Rattle.files_unix_fs.specs.declared.file_error.FileError.TheVariants.{NothingWanted, TooDeep, OtherCodec, NotANode, NoData, NoMessage, NotAFile, EmptyPart, WrongSize, WrongLinks, OutOfMemory}
use Rattle.files_unix_fs.specs.declared.wanted.Wanted.{Wanted}
use Rattle.files_unix_fs.specs.declared.node.NodeError.TheVariants as node
use Rattle.files_unix_fs.specs.UnixFs.{UnixFsParts}
use Rattle.files_unix_fs.specs.Nodes.{cids_of}
use Rattle.files_unix_fs.specs.Messages.{Says, SaysNothing}
use Rattle.files_unix_fs.specs.Files.{codec_of, joined, of_size, has_empty, total_of, is_file, bytes_under}

-- ---- wanted blocks

pub record Asked : Type 0 where
  pub cid : List ℕ
  pub size : Option ℕ
  pub depth : ℕ

abbrev pub asked : Wanted → Asked
asked w = record { cid = cid_bytes w.cid; size = w.size; depth = w.depth }

-- the content under the CID, if it has the size that was announced
abbrev pub asked_bytes : (List ℕ → Option (List ℕ)) → Asked → Option (List ℕ)
asked_bytes blocks w = of_size w.size (bytes_under blocks w.depth w.cid)

-- the contents of the wanted blocks, the last of them first
abbrev pub stack_bytes : (List ℕ → Option (List ℕ)) → List Asked → Option (List ℕ)
stack_bytes blocks [] = Some []
stack_bytes blocks (w ∷ above) = joined (stack_bytes blocks above) (asked_bytes blocks w)

-- the contents of the wanted blocks, the first of them first
abbrev pub row_bytes : (List ℕ → Option (List ℕ)) → List Asked → Option (List ℕ)
row_bytes blocks [] = Some []
row_bytes blocks (w ∷ more) = joined (asked_bytes blocks w) (row_bytes blocks more)

-- links may lead this many blocks deep, and the announced size is at least one byte
abbrev pub IsBelow : ℕ → Asked → Type 0
IsBelow depth w = (w.depth ≡ depth) × ((n : ℕ) × (w.size ≡ Some n) × (0 < n))

abbrev pub AreBelow : ℕ → List Asked → Type 0
AreBelow depth = AllByRecursion (IsBelow depth)

-- ---- one node

-- the bytes are fields of a node, one after another
abbrev pub HasRow : List ℕ → Type 0
HasRow b = (row : List Field) × BeginsWithFields b row []

-- the size, if one is announced, is this total
abbrev pub IsTotal : Option ℕ → ℕ → Type 0
IsTotal None n = Unit {0}
IsTotal (Some total) n = total ≡ n

abbrev pub followed_by : Asked → Option (List Asked) → Option (List Asked)
followed_by w None = None
followed_by w (Some more) = Some (w ∷ more)

-- each CID with its size; `None` if there are more CIDs than sizes, or fewer
abbrev pub paired : ℕ → List (List ℕ) → List ℕ → Option (List Asked)
paired depth [] [] = Some []
paired depth [] (size ∷ sizes) = None
paired depth (cid ∷ cids) [] = None
paired depth (cid ∷ cids) (size ∷ sizes) =
    followed_by (record { cid = cid; size = Some size; depth = depth }) (paired depth cids sizes)

-- why CIDs and sizes are not paired; memory runs out only if there are CIDs
abbrev pub IsNoPairing : FileError → List (List ℕ) → Option (List Asked) → Type 0
IsNoPairing OutOfMemory cids pairs = cids ≢ []
IsNoPairing WrongLinks cids pairs = pairs ≡ None
IsNoPairing _ cids pairs = ⊥

-- the node's message was read, and says this
pub record IsFileNode (w : Asked) (block : List ℕ) (parts : UnixFsParts) : Type 0 where
  pub codec : codec_of w.cid ≡ 0x70
  pub deep : 0 < w.depth
  pub says : Says block parts

-- ---- one block

-- the block is a node with links
abbrev pub HasLinks : Asked → List ℕ → Type 0
HasLinks w block = (codec_of w.cid ≡ 0x70) × (cids_of block ≢ [])

-- The block has these bytes of the content under the CID, and then come the contents of the blocks
-- wanted after it, whichever blocks there are.
pub record HasPart (w : Asked) (block content : List ℕ) (after : List Asked) : Type 0 where
  pub bytes : (blocks : List ℕ → Option (List ℕ)) → blocks w.cid ≡ Some block
      → asked_bytes blocks w ≡ joined (Some content) (row_bytes blocks after)
  pub links : after ≢ [] → HasLinks w block
  pub below : AreBelow (w.depth - 1) after
  pub deep : 0 < w.depth

-- with this block under the CID, there is no content of the announced size
abbrev pub HasNoPart : Asked → List ℕ → Type 0
HasNoPart w block = (blocks : List ℕ → Option (List ℕ)) → blocks w.cid ≡ Some block
    → asked_bytes blocks w ≡ None

-- the leaf, or the sum of the node's parts, does not have the announced size
abbrev pub HasWrongSize : Asked → List ℕ → Type 0
HasWrongSize w block = ((codec_of w.cid ≡ 0x55) × ¬ IsTotal w.size (length block))
    ⊎ ((parts : UnixFsParts) × IsFileNode w block parts
    × ((¬ IsTotal parts.file_size (total_of parts)) ⊎ (¬ IsTotal w.size (total_of parts))))

-- why a block is refused
abbrev pub IsCause : FileError → Asked → List ℕ → Type 0
IsCause NothingWanted w block = ⊥
IsCause TooDeep w block = w.depth ≡ 0
IsCause (OtherCodec codec) w block = (codec ≡ codec_of w.cid) × (codec ≢ 0x55) × (codec ≢ 0x70)
IsCause (NotANode e) w block = (codec_of w.cid ≡ 0x70) × SaysNothing (node.NotANode e) block
IsCause NoData w block = (codec_of w.cid ≡ 0x70) × SaysNothing node.NoData block
IsCause (NoMessage e) w block = (codec_of w.cid ≡ 0x70) × SaysNothing (node.NoMessage e) block
IsCause (NotAFile kind) w block = (parts : UnixFsParts) × IsFileNode w block parts
    × (kind ≡ parts.kind) × (is_file kind ≡ false)
IsCause EmptyPart w block = (parts : UnixFsParts) × IsFileNode w block parts
    × (is_file parts.kind ≡ true) × (has_empty parts.block_sizes ≡ true)
IsCause WrongLinks w block = (parts : UnixFsParts) × IsFileNode w block parts
    × (length (cids_of block) ≢ length parts.block_sizes)
IsCause WrongSize w block = HasWrongSize w block
IsCause OutOfMemory w block = HasLinks w block

-- a refusal denies that there is content, unless memory ran out or the block is not a node
abbrev pub Denies : FileError → Type 0 → Type 0
Denies OutOfMemory nothing = Unit {0}
Denies (NotANode e) nothing = Unit {0}
Denies _ nothing = nothing

abbrev pub IsNoPart : FileError → Asked → List ℕ → Type 0
IsNoPart e w block = IsCause e w block × Denies e (HasNoPart w block)

-- ---- the stack

-- this block is wanted next, and is the one under its CID
pub record IsNext (blocks : List ℕ → Option (List ℕ)) (stack below : List Asked) (w : Asked) (block : List ℕ) : Type 0 where
  pub is : stack ≡ below ++ w ∷ []
  pub held : blocks w.cid ≡ Some block

-- The returned bytes are the first of the contents, and the other contents
-- are those of the blocks that are wanted then.
abbrev pub IsTaken : (List ℕ → Option (List ℕ)) → List Asked → List ℕ → List Asked → Type 0
IsTaken blocks old out new =
    stack_bytes blocks old ≡ joined (Some out) (stack_bytes blocks new)

-- the blocks wanted after this one still are; the new ones lead one
-- block less deep, and each has at least one byte
abbrev pub GoesOn : List Asked → Asked → List Asked → Type 0
GoesOn below w new = (0 < w.depth) × ((more : List Asked) × (new ≡ below ++ more)
    × AreBelow (w.depth - 1) more)

-- calls of `take`, one after another, and what each returned
abbrev pub AreTaken : (List ℕ → Option (List ℕ)) → List Asked → List (List ℕ) → List Asked → Type 0
AreTaken blocks old [] new = old ≡ new
AreTaken blocks old (out ∷ more) new = (next : List Asked) × IsTaken blocks old out next
    × AreTaken blocks next more new

-- The bytes that are returned until no block is wanted are the contents, in order.
abbrev pub HandsOutContents : Type 0
HandsOutContents = (blocks : List ℕ → Option (List ℕ)) (stack : List Asked) (pieces : List (List ℕ))
    → AreTaken blocks stack pieces [] → stack_bytes blocks stack ≡ Some (concat pieces)
