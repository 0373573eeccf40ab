-- What is under a path of names: the entries of a directory, or a block of another kind.
use Rattle.std.specs.Prelude.{◌≡◌, ◌≢◌, ◌⊎◌, ◌<◌, ◌≤◌, ℕ, ◌+◌, ◌==◌, ◌/◌, ◌%◌, nat_lt, List, [], ◌∷◌, ◌++◌, length, codes, decimal, Bool, true, false, ◌&&◌, not, if◌then◌else◌, Option, None, Some, Vec}
use Rattle.std.specs.List.{AllByRecursion, flat_map}
use Rattle.std.specs.BTreeMap.{BTreeMap, get}
use Rattle.std.specs.declared.alloc.Global.{Global}
use Rattle.ipld_tree.specs.Cid.{CidParts, cid_bytes, cid_cmp}
use Rattle.text_cid.specs.Texts.{cid_text}
use Rattle.dag_pb.specs.Node.{NodeParts, LinkParts, IsNode}
use Rattle.files_unix_fs.specs.Files.{codec_of}
use Rattle.files_unix_fs.specs.Nodes.{or_nothing}
use Rattle.files_unix_fs.specs.Entities.{IsEntity, IsNoEntity}
use Rattle.files_unix_fs.specs.declared.entity.Entity.{Entity}
use Rattle.files_unix_fs.specs.declared.entity.Entity.TheVariants.{File, Directory, Shard, Symlink, Metadata}
use Rattle.ipld_links.specs.Reaching.{Stored, AreBytesOf}
use Rattle.ipld_links.specs.Verdicts.{IsVerified, IsVerdict}
use Rattle.program_parts.specs.Lines.{line, is_well, IsSaidOfEach}
use Rattle.program_parts.specs.declared.stop.Stop.{Stop}
use Rattle.program_parts.specs.declared.stop.Stop.TheVariants as stops
use Rattle.program_parts.specs.declared.entries.Listed.{Listed}
use Rattle.program_parts.specs.declared.entries.Listed.TheVariants as listed
use Rattle.program_parts.specs.Stops.{stop_line}
use Rattle.program_parts.specs.FileNames.{LeadsByNames, IsNoPath}

-- ---- one block

-- these bytes are stored under the CID and match it, and they are this entity
abbrev pub IsEntityAt : Stored → CidParts → List ℕ → Entity → Type 0
IsEntityAt stored cid b entity = AreBytesOf stored cid b × IsVerified (cid, b)
    × IsEntity entity (codec_of (cid_bytes cid)) b

-- why the block under the CID is not an entity of UnixFS
abbrev pub IsNoEntityAt : Stored → CidParts → Stop → Type 0
IsNoEntityAt stored cid stops.Missing = (b : List ℕ) → ¬ AreBytesOf stored cid b
IsNoEntityAt stored cid (stops.NoBlock verdict) = (b : List ℕ) × AreBytesOf stored cid b
    × IsVerdict (cid, b) verdict × (is_well verdict ≡ false)
IsNoEntityAt stored cid (stops.NoPart e) = (b : List ℕ) × AreBytesOf stored cid b
    × IsVerified (cid, b) × IsNoEntity e (codec_of (cid_bytes cid)) b

-- ---- words

-- the kind and the size of an entity
abbrev pub entity_words : Entity → List ℕ
entity_words (File (Some size)) = codes "file " ++ (decimal size ++ codes " ")
entity_words (File None) = codes "file - "
entity_words Directory = codes "directory - "
entity_words Shard = codes "shard - "
entity_words (Symlink to) = codes "symlink " ++ (decimal (length to.now) ++ codes " ")
entity_words Metadata = codes "metadata - "

-- the words for a block that is not an entity
abbrev pub stop_words : Stop → List ℕ
stop_words stops.Missing = codes "missing - "
stop_words _ = codes "refused - "

-- a byte of a name is written as it is: not below 0x20, not 0x7f, not a backslash
abbrev pub is_shown : ℕ → Bool
is_shown byte = not (nat_lt byte 0x20) && (not (byte == 0x7f) && not (byte == 0x5c))

-- a hexadecimal digit, in lower case
abbrev pub hex_digit : ℕ → ℕ
hex_digit n = if nat_lt n 10 then 48 + n else 87 + n

-- a byte as it is, or as `\x` and two digits
abbrev pub shown_byte : ℕ → List ℕ
shown_byte byte = if is_shown byte then byte ∷ []
    else 0x5c ∷ 0x78 ∷ hex_digit (byte / 16) ∷ hex_digit (byte % 16) ∷ []

-- ---- one entry

-- the words, the CID, and the name, or nothing if it has none
abbrev pub entry_line : List ℕ → LinkParts → List ℕ
entry_line words link =
    line (words ++ (cid_text link.hash ++ (32 ∷ flat_map shown_byte (or_nothing link.name))))

-- the words for the block under the CID: what it is; or it is missing or refused, and not well
abbrev pub AreWordsOf : Stored → CidParts → Bool → List ℕ → Type 0
AreWordsOf stored cid well words =
    ((b : List ℕ) × (entity : Entity) × IsEntityAt stored cid b entity × (well ≡ true)
    × (words ≡ entity_words entity))
    ⊎ ((stop : Stop) × IsNoEntityAt stored cid stop × (well ≡ false) × (words ≡ stop_words stop))

-- the map has the words for blocks under their CIDs
abbrev pub KnowsWords : Stored → BTreeMap CidParts (Vec ℕ Global × Bool) → Type 0
KnowsWords stored known = (cid : CidParts) (said : Vec ℕ Global × Bool) → get cid_cmp known cid ≡ Some said
    → AreWordsOf stored cid said.1 said.0.items

-- what the map has under the CID
abbrev pub IsKnown : BTreeMap CidParts (Vec ℕ Global × Bool) → CidParts
    → Option (Vec ℕ Global × Bool) → Type 0
IsKnown known cid None = get cid_cmp known cid ≡ None
IsKnown known cid (Some found) = (said : Vec ℕ Global × Bool) × (get cid_cmp known cid ≡ Some said)
    × (found.1 ≡ said.1) × (found.0.items ≡ said.0.items)

-- the map has these words under the CID now, and the same as before under others
abbrev pub KeepsWords : CidParts → Bool → List ℕ → BTreeMap CidParts (Vec ℕ Global × Bool)
    → BTreeMap CidParts (Vec ℕ Global × Bool) → Type 0
KeepsWords cid well words old new =
    ((said : Vec ℕ Global × Bool) × (get cid_cmp new cid ≡ Some said) × (said.1 ≡ well)
    × (said.0.items ≡ words))
    × ((other : CidParts) → other ≢ cid → get cid_cmp new other ≡ get cid_cmp old other)

-- the line of an entry, with the words for the block under its CID
abbrev pub IsEntry : Stored → LinkParts → Bool → List ℕ → Type 0
IsEntry stored link well out = (words : List ℕ) × AreWordsOf stored link.hash well words
    × (out ≡ entry_line words link)

-- ---- a listing

-- the line of a block that is not a directory
abbrev pub own_line : CidParts → Entity → List ℕ
own_line cid entity = line (entity_words entity ++ cid_text cid)

-- the output for a block that is this entity: the entries of a directory, in the order of its links
abbrev pub IsListingOf : Stored → CidParts → List ℕ → Entity → Bool → List ℕ → List ℕ → Type 0
IsListingOf stored cid b Directory well out told = ((node : NodeParts) × IsNode b node
    × IsSaidOfEach (IsEntry stored) node.links well out) × (told ≡ [])
IsListingOf stored cid b Shard well out told = (well ≡ false) × (out ≡ [])
    × (told ≡ line (cid_text cid ++ codes " refused InShards"))
IsListingOf stored cid b entity well out told = (well ≡ true) × (out ≡ own_line cid entity)
    × (told ≡ [])

-- the output for the block under the CID
abbrev pub IsListingUnder : Stored → CidParts → Bool → List ℕ → List ℕ → Type 0
IsListingUnder stored cid well out told =
    ((b : List ℕ) × (entity : Entity) × IsEntityAt stored cid b entity
    × IsListingOf stored cid b entity well out told)
    ⊎ ((stop : Stop) × IsNoEntityAt stored cid stop × (well ≡ false) × (out ≡ [])
    × (told ≡ stop_line cid stop))

-- what is listed for the block under the CID: its whole output; or, if it is a directory, its bytes
abbrev pub IsListed : Stored → CidParts → Listed → Type 0
IsListed stored cid (listed.Whole answer) =
    IsListingUnder stored cid answer.0.1 answer.0.0.items answer.1.items
IsListed stored cid (listed.Entries b) = IsEntityAt stored cid b.now Directory

-- the output for what is under the path of names from the root
abbrev pub IsListing : Stored → CidParts → List (List ℕ) → Bool → List ℕ → List ℕ → Type 0
IsListing stored root path well out told =
    ((found : CidParts) × LeadsByNames stored root path found
    × IsListingUnder stored found well out told)
    ⊎ IsNoPath stored root path well out told

-- ---- names as they are written

-- Each byte of a name is written as bytes that are not ASCII control characters.
abbrev pub NamesStayInLine : Type 0
NamesStayInLine = (name : List ℕ) → AllByRecursion (λ byte. byte < 256) name
    → AllByRecursion (λ byte. (0x20 ≤ byte) × (byte ≢ 0x7f)) (flat_map shown_byte name)

-- Names that are written alike are the same.
abbrev pub NamesStayApart : Type 0
NamesStayApart = (a b : List ℕ) → flat_map shown_byte a ≡ flat_map shown_byte b → a ≡ b
