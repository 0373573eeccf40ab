-- Paths of names, through directories (UnixFS specification, path resolution).
use Rattle.std.specs.Prelude.{◌≡◌, ◌⊎◌, ℕ, List, [], ◌∷◌, ◌++◌, codes, Bool, false, Option, None, Some, Result}
use Rattle.ipld_tree.specs.Cid.{CidParts}
use Rattle.text_cid.specs.Texts.{cid_text}
use Rattle.dag_pb.specs.Node.{NodeParts, IsNode}
use Rattle.files_unix_fs.specs.Directories.{link_named, IsDirectory, IsNoDirectory}
use Rattle.files_unix_fs.specs.declared.directory_error.DirectoryError.{DirectoryError}
use Rattle.files_unix_fs.specs.declared.directory_error.DirectoryError.TheVariants as directory
use Rattle.ipld_links.specs.Reaching.{Stored, AreBytesOf}
use Rattle.ipld_links.specs.Verdicts.{IsVerified, IsVerdict, IsDagPb}
use Rattle.program_parts.specs.Lines.{line, missing_line, verdict_text, is_well, SaysBoth}
use Rattle.program_shared.specs.declared.fault.ToolError.{ToolError}
use Rattle.program_parts.specs.Stops.{cause_name}
use Rattle.program_parts.specs.Content.{SaysContent}
use Rattle.program_parts.specs.declared.file_names.NoEntry.{NoEntry}
use Rattle.program_parts.specs.declared.file_names.NoEntry.TheVariants as entries
use Rattle.program_parts.specs.declared.file_names.NamesEnd.{NamesEnd}

-- ---- one directory

-- the first entry with this name leads there
abbrev pub HasEntryIn : List ℕ → List ℕ → CidParts → Type 0
HasEntryIn b name next = IsDirectory b × ((node : NodeParts) × IsNode b node
    × (link_named name node.links ≡ Some next))

-- the node is not a directory, or has no entry with this name
abbrev pub NamesNothingIn : List ℕ → List ℕ → NoEntry → Type 0
NamesNothingIn b name (entries.NoDirectory e) = IsNoDirectory e b
NamesNothingIn b name entries.Nothing = IsDirectory b × ((node : NodeParts) × IsNode b node
    × (link_named name node.links ≡ None))
NamesNothingIn b name _ = ⊥

-- the block under the CID is a directory, whose first entry with this name leads there
abbrev pub HasEntry : Stored → CidParts → List ℕ → CidParts → Type 0
HasEntry stored cid name next = (b : List ℕ) × AreBytesOf stored cid b × IsVerified (cid, b)
    × IsDagPb cid × HasEntryIn b name next

-- why the name leads nowhere from the block under the CID
abbrev pub NamesNothing : Stored → CidParts → List ℕ → NoEntry → Type 0
NamesNothing stored cid name entries.Missing = (b : List ℕ) → ¬ AreBytesOf stored cid b
NamesNothing stored cid name (entries.NoBlock verdict) = (b : List ℕ) × AreBytesOf stored cid b
    × IsVerdict (cid, b) verdict × (is_well verdict ≡ false)
NamesNothing stored cid name cause = (b : List ℕ) × AreBytesOf stored cid b × IsVerified (cid, b)
    × ((IsDagPb cid × NamesNothingIn b name cause) ⊎ ((¬ IsDagPb cid) × (cause ≡ entries.Nothing)))

-- ---- a path

-- the names lead there, each by an entry of a directory
abbrev pub LeadsByNames : Stored → CidParts → List (List ℕ) → CidParts → Type 0
LeadsByNames stored cid [] found = cid ≡ found
LeadsByNames stored cid (name ∷ more) found = (next : CidParts) × HasEntry stored cid name next
    × LeadsByNames stored next more found

-- some of the names lead on, and the next leads nowhere
abbrev pub EndsByNames : Stored → CidParts → List (List ℕ) → NamesEnd → Type 0
EndsByNames stored cid [] end = ⊥
EndsByNames stored cid (name ∷ more) end =
    ((end.block ≡ cid) × (end.name.now ≡ name) × NamesNothing stored cid name end.cause)
    ⊎ ((next : CidParts) × HasEntry stored cid name next × EndsByNames stored next more end)

-- ---- lines

-- the name of the refusal's variant, or of its cause if the data is not a UnixFS message
abbrev pub directory_error_name : DirectoryError → List ℕ
directory_error_name (directory.NotANode e) = codes "NotANode"
directory_error_name directory.NoData = codes "NoData"
directory_error_name (directory.NoMessage e) = cause_name e.cause
directory_error_name directory.InShards = codes "InShards"
directory_error_name (directory.NotADirectory kind) = codes "NotADirectory"

-- the line that says why a name leads nowhere from the block of this CID
abbrev pub entry_line : CidParts → List ℕ → NoEntry → List ℕ
entry_line cid name entries.Missing = missing_line cid
entry_line cid name (entries.NoBlock verdict) = line (cid_text cid ++ (32 ∷ verdict_text verdict))
entry_line cid name (entries.NoDirectory e) =
    line (cid_text cid ++ (codes " refused " ++ directory_error_name e))
entry_line cid name entries.Nothing = line (cid_text cid ++ (codes " has nothing at " ++ name))

abbrev pub names_line : NamesEnd → List ℕ
names_line end = entry_line end.block end.name.now end.cause

-- ---- a file under a path

-- the path leads to no block: the output is empty, and a line says why
abbrev pub IsNoPath : Stored → CidParts → List (List ℕ) → Bool → List ℕ → List ℕ → Type 0
IsNoPath stored root path well out told = (end : NamesEnd) × EndsByNames stored root path end
    × (well ≡ false) × (out ≡ []) × (told ≡ names_line end)

-- what is written for the file that the path leads to from the root
abbrev pub SaysFile : Stored → CidParts → List (List ℕ) → Option (List ℕ) → Option (List ℕ)
    → Result Bool ToolError → Option (List ℕ) → Option (List ℕ) → Type 0
SaysFile stored root path old heard result new after =
    ((found : CidParts) × LeadsByNames stored root path found
    × SaysContent stored found old heard result new after)
    ⊎ SaysBoth (IsNoPath stored root path) old heard result new after
