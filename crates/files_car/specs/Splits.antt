-- The parts at the front of a CAR file's bytes, and why a part is not there.
use Rattle.std.specs.Prelude.{◌≡◌, ◌⊎◌, ℕ, ◌^◌, ◌<◌, List, ◌++◌, length, map, Result, MatchResult, Vec}
use Rattle.std.specs.declared.alloc.Global.{Global}
use Rattle.ipld_tree.specs.Cid.{varint, CidParts, AreCidParts, cid_bytes}
use Rattle.ipld_tree.specs.CidFault.{IsCutVarint, IsNoVarint, IsFault}
use Rattle.ipld_tree.specs.declared.cid_error.CidError.{CidError}
use Rattle.ipld_tree.specs.Tree.{link, items_of}
use Rattle.ipld_tree.specs.Spelling.{IsSpelling, AreFronts}
use Rattle.dagcbor_decode.specs.Verdicts.{IsRefusedFor}
use Rattle.dagcbor_items.specs.Walks.{forms}
use Rattle.ipld_links.specs.Blocks.{HasBlock}
use Rattle.files_car.specs.Car.{counted, Section, section_bytes, IsSection, header_tree, header_bytes, IsHeader}
use Rattle.files_car.specs.declared.error.CarError.{CarError}
use Rattle.files_car.specs.declared.error.CarError.TheVariants.{Truncated, InvalidLength, InvalidCid, NoBlock, OtherHeader, OutOfMemory}

-- ---- a length and its bytes

-- the bytes are a length, this many inner bytes, and then the rest
abbrev pub SplitsCounted : List ℕ → List ℕ → List ℕ → Type 0
SplitsCounted b inner rest = (length inner < 2 ^ 64) × (b ≡ counted inner ++ rest)

-- the bytes end inside a length, or before the bytes that it counts end
abbrev pub IsCutPart : List ℕ → Type 0
IsCutPart b = IsCutVarint b
    ⊎ ((n : ℕ) × (rest : List ℕ) × (n < 2 ^ 64) × (length rest < n) × (b ≡ varint n ++ rest))

-- why no length with all its bytes is at the front
abbrev pub CountFault : {E : Type 0} → CarError E → List ℕ → Type 0
CountFault Truncated b = IsCutPart b
CountFault InvalidLength b = IsNoVarint b
CountFault _ b = ⊥

-- ---- a CID

-- the bytes are this CID, and then the rest
abbrev pub BeginsWithCid : List ℕ → CidParts → List ℕ → Type 0
BeginsWithCid b c rest = AreCidParts c × (b ≡ cid_bytes c ++ rest)

-- the bytes do not begin with a CID, for this cause, as of a CID
abbrev pub BeginsNoCid : CidError → List ℕ → Type 0
BeginsNoCid e b = ((c : CidParts) (rest : List ℕ) → ¬ BeginsWithCid b c rest) × IsFault e b

-- ---- a section

-- the bytes are this section, and then the rest
abbrev pub SplitsSection : List ℕ → Section → List ℕ → Type 0
SplitsSection b s rest = IsSection s × (b ≡ section_bytes s ++ rest)

-- the bytes do not begin with a section
abbrev pub BeginsNoSection : List ℕ → Type 0
BeginsNoSection b = (s : Section) (rest : List ℕ) → ¬ SplitsSection b s rest

-- why the bytes do not begin with a section
abbrev pub SectionFault : {E : Type 0} → CarError E → List ℕ → Type 0
SectionFault (InvalidCid e) b = (body rest : List ℕ) × SplitsCounted b body rest × IsFault e body
SectionFault e b = CountFault e b

-- ---- the header

-- the bytes are the header of these roots, and then the rest
abbrev pub SplitsHeader : List ℕ → List (List ℕ) → List ℕ → Type 0
SplitsHeader b roots rest = IsHeader roots × (b ≡ header_bytes roots ++ rest)

-- the bytes do not begin with a header
abbrev pub BeginsNoHeader : List ℕ → Type 0
BeginsNoHeader b = (roots : List (List ℕ)) (rest : List ℕ) → ¬ SplitsHeader b roots rest

-- the bytes are `count` links, to these roots, and then the rest
abbrev pub AreLinkFronts : List ℕ → ℕ → List (List ℕ) → List ℕ → Type 0
AreLinkFronts b count roots rest = (length roots ≡ count) × AreFronts b (items_of (map link roots)) rest

-- the bytes begin with a length and a block of that length
abbrev pub CountsBlock : List ℕ → Type 0
CountsBlock b = (inner rest : List ℕ) × SplitsCounted b inner rest × HasBlock inner

-- why the bytes are not a header; or memory ran out, for a block
abbrev pub IsNoHeader : {E : Type 0} → CarError E → List ℕ → Type 0
IsNoHeader (NoBlock e) b = IsRefusedFor b e
IsNoHeader OtherHeader b = HasBlock b × ((roots : List (List ℕ)) → ¬ IsSpelling b (header_tree roots))
IsNoHeader OutOfMemory b = HasBlock b
IsNoHeader _ b = ⊥

-- The bytes are read exactly if they are a header, unless memory runs out.
abbrev pub ReadsHeader : {E : Type 0} → List ℕ → Result (Vec CidParts Global) (CarError E) → Type 0
ReadsHeader b result = MatchResult result (λ v. IsSpelling b (header_tree (forms v.items))) (λ e. IsNoHeader e b)

-- why the bytes do not begin with a header
abbrev pub HeaderFault : {E : Type 0} → CarError E → List ℕ → Type 0
HeaderFault (NoBlock e) b = (inner rest : List ℕ) × SplitsCounted b inner rest × IsRefusedFor inner e
HeaderFault OtherHeader b = CountsBlock b
HeaderFault e b = CountFault e b

-- why a header is not read: memory runs out only if a block is there, after its length
abbrev pub HeaderRefused : {E : Type 0} → CarError E → List ℕ → Type 0
HeaderRefused OutOfMemory b = CountsBlock b
HeaderRefused e b = BeginsNoHeader b × HeaderFault e b
