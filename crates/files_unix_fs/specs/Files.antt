-- The content of files (UnixFS specification), given the blocks under CIDs.
use Rattle.std.specs.Prelude.{ℕ, zero, suc, ◌+◌, ◌==◌, Bool, true, false, List, [], ◌∷◌, ◌++◌, length, sum, if◌then◌else◌, Option, None, Some, Result, Ok, Err}
use Rattle.files_unix_fs.specs.Fields.{Front, varint_of}
use Rattle.files_unix_fs.specs.declared.kind.Kind.{Kind}
use Rattle.files_unix_fs.specs.declared.kind.Kind.TheVariants.{Raw, File}
use Rattle.files_unix_fs.specs.declared.error.UnixFsError.{UnixFsError}
use Rattle.files_unix_fs.specs.UnixFs.{UnixFsParts, unix_fs_of}
use Rattle.files_unix_fs.specs.Nodes.{or_nothing, data_of, cids_of}

-- the codec of a CID: that of nodes in version 0, which begins with 12; version 1 says it
abbrev pub number_or_0 : Front ℕ → ℕ
number_or_0 (Ok (n, rest)) = n
number_or_0 (Err cause) = 0

abbrev pub codec_of : List ℕ → ℕ
codec_of [] = 0
codec_of (version ∷ b) = if version == 0x12 then 0x70 else number_or_0 (varint_of b)

-- ---- contents; each is `None` if a part of it is missing

abbrev pub joined : Option (List ℕ) → Option (List ℕ) → Option (List ℕ)
joined None more = None
joined (Some s) None = None
joined (Some s) (Some more) = Some (s ++ more)

-- the content, if it has the announced size, or none was announced
abbrev pub of_size : Option ℕ → Option (List ℕ) → Option (List ℕ)
of_size None content = content
of_size (Some n) None = None
of_size (Some n) (Some s) = if length s == n then Some s else None

-- one of the sizes is 0
abbrev pub has_empty : List ℕ → Bool
has_empty [] = false
has_empty (zero ∷ sizes) = true
has_empty (suc n ∷ sizes) = has_empty sizes

-- the contents below links, in order, by the content below a CID;
-- a size was announced for each, and it is not 0
abbrev pub linked_bytes : (List ℕ → Option (List ℕ)) → List (List ℕ) → List ℕ → Option (List ℕ)
linked_bytes below [] [] = Some []
linked_bytes below [] (size ∷ sizes) = None
linked_bytes below (cid ∷ cids) [] = None
linked_bytes below (cid ∷ cids) (zero ∷ sizes) = None
linked_bytes below (cid ∷ cids) (suc n ∷ sizes) =
    joined (of_size (Some (suc n)) (below cid)) (linked_bytes below cids sizes)

-- the sum of the sizes of a node's parts
abbrev pub total_of : UnixFsParts → ℕ
total_of parts = length (or_nothing parts.content) + sum parts.block_sizes

-- ---- files

abbrev pub is_file : Kind → Bool
is_file File = true
is_file Raw = true
is_file _ = false

-- the content under a CID, by the content of a block of a codec
abbrev pub held_bytes : (ℕ → List ℕ → Option (List ℕ)) → ℕ → Option (List ℕ) → Option (List ℕ)
held_bytes bytes codec None = None
held_bytes bytes codec (Some block) = bytes codec block

-- the content of a node of a file: the bytes in it, and then those below its links
abbrev pub node_bytes : (List ℕ → Option (List ℕ)) → List (List ℕ) → Result UnixFsParts UnixFsError → Option (List ℕ)
node_bytes below cids (Err e) = None
node_bytes below cids (Ok parts) = if is_file parts.kind
    then of_size parts.file_size (joined (Some (or_nothing parts.content)) (linked_bytes below cids parts.block_sizes))
    else None

abbrev pub data_bytes : (List ℕ → Option (List ℕ)) → List (List ℕ) → Option (List ℕ) → Option (List ℕ)
data_bytes below cids None = None
data_bytes below cids (Some message) = node_bytes below cids (unix_fs_of message)

-- The content of a block: of the codec raw (55) its bytes, of dag-pb (70) that of its node. Links
-- lead at most `depth` blocks deep.
unfoldable pub file_bytes : (List ℕ → Option (List ℕ)) → ℕ → ℕ → List ℕ → Option (List ℕ)
file_bytes blocks zero codec b = None
file_bytes blocks (suc depth) codec b =
    if codec == 0x55 then Some b
    else if codec == 0x70 then data_bytes (λ cid. held_bytes (file_bytes blocks depth) (codec_of cid) (blocks cid)) (cids_of b) (data_of b)
    else None

-- the content under a CID
abbrev pub bytes_under : (List ℕ → Option (List ℕ)) → ℕ → List ℕ → Option (List ℕ)
bytes_under blocks depth cid = held_bytes (file_bytes blocks depth) (codec_of cid) (blocks cid)
