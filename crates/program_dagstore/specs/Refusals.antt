-- What is reported of a refusal, and the exit status of a run that ends so.
use Rattle.std.specs.Prelude.{◌≡◌, ℕ, List, [], ◌∷◌, ◌++◌, codes, decimal, Bool, Option, None, Some, Result, Ok, Err, if◌then◌else◌}
use Rattle.sqlite_trees.specs.declared.error.StoreError.{StoreError}
use Rattle.sqlite_trees.specs.declared.error.StoreError.TheVariants as disk
use Rattle.dagcbor_core.specs.Appends.{AppendsFront}
use Rattle.dagcbor_decode.specs.PrintedNames.{variant_name}
use Rattle.ipld_links.specs.declared.sound.Unsound.{Unsound}
use Rattle.ipld_links.specs.declared.sound.Unsound.TheVariants as unsound
use Rattle.program_shared.specs.declared.fault.ToolError.{ToolError}
use Rattle.program_shared.specs.declared.fault.ToolError.TheVariants as tool
use Rattle.store_on_disk.specs.declared.error.StoreRefusal.{StoreRefusal}
use Rattle.store_on_disk.specs.declared.error.StoreRefusal.TheVariants as refusal
use Rattle.text_cid.specs.Texts.{cid_text}
use Rattle.program_parts.specs.Lines.{line, verdict_text}
use Rattle.program_parts.specs.Names.{pb_cause_name}
use Rattle.program_dagstore.specs.declared.fault.Fault.{Fault}
use Rattle.program_dagstore.specs.declared.fault.Fault.TheVariants as fault

-- the message for a failure of the database
abbrev pub disk_text : StoreError → List ℕ
disk_text disk.OutOfMemory = codes "out of memory"
disk_text disk.Io = codes "disk I/O error"
disk_text disk.Corrupt = codes "database disk image is malformed"
disk_text disk.Full = codes "database or disk is full"
disk_text disk.Broken = codes "the transaction must be rolled back"
disk_text disk.Unstorable = codes "a row cannot be stored"

-- the message for a block that does not belong under its name, with the byte at which it is
-- malformed if it is not DAG-CBOR or DAG-PB
abbrev pub unsound_text : Unsound → List ℕ
unsound_text unsound.OtherHash = codes "the block is named by another hash function than SHA-256"
unsound_text unsound.OtherBytes = codes "the block has other bytes than its name says"
unsound_text (unsound.NoBlock e place) = codes "the block is no DAG-CBOR: "
    ++ (variant_name e ++ (codes " at byte " ++ decimal place))
unsound_text (unsound.NoNode e) = codes "the block is no DAG-PB: "
    ++ (pb_cause_name e.cause ++ (codes " at byte " ++ decimal e.place))

-- the message for the number of a row, if it has one
abbrev pub row_text : Option ℕ → List ℕ
row_text None = []
row_text (Some number) = codes " at row " ++ decimal number

-- the message for a refusal of the store
abbrev pub refusal_text : StoreRefusal → List ℕ
refusal_text (refusal.Unsound e) = unsound_text e
refusal_text (refusal.Damaged name) =
    codes "what is stored under the name has other bytes than it says"
refusal_text (refusal.LinksUnread name verdict) = codes "the links of a block cannot be read"
refusal_text (refusal.NoBlock name) = codes "a root has no block"
refusal_text refusal.NoNumber = codes "no number is left for a row"
refusal_text refusal.TooLong = codes "the block is too long for a row"
refusal_text (refusal.BadEntry row) = codes "the index of names has a wrong entry" ++ row_text row
refusal_text (refusal.BadRoot row) = codes "the table of roots has a wrong row" ++ row_text row
refusal_text refusal.NotAStore = codes "the file is no store of blocks"
refusal_text refusal.EarlierVersion = codes "the file is of an earlier version, which keeps no roots: export it, and import that into a new file"
refusal_text refusal.Locked = codes "another process has the file open"
refusal_text refusal.CannotOpen = codes "the file cannot be opened for reading and writing"
refusal_text (refusal.Disk e) = disk_text e
refusal_text refusal.OutOfMemory = codes "out of memory"

-- status 1 if the data are the cause, else 2
abbrev pub refusal_status : StoreRefusal → ℕ
refusal_status (refusal.Unsound e) = 1
refusal_status (refusal.Damaged name) = 1
refusal_status (refusal.LinksUnread name verdict) = 1
refusal_status (refusal.NoBlock name) = 1
refusal_status refusal.NoNumber = 2
refusal_status refusal.TooLong = 1
refusal_status (refusal.BadEntry row) = 1
refusal_status (refusal.BadRoot row) = 1
refusal_status refusal.NotAStore = 1
refusal_status refusal.EarlierVersion = 1
refusal_status refusal.Locked = 2
refusal_status refusal.CannotOpen = 2
refusal_status (refusal.Disk e) = 2
refusal_status refusal.OutOfMemory = 2

-- the message for a device that failed, or for out of memory
abbrev pub tool_text : ToolError → List ℕ
tool_text tool.Input = codes "the input failed"
tool_text tool.Output = codes "standard output takes no more"
tool_text tool.OutOfMemory = codes "out of memory"

-- a line that begins with the program's name
abbrev pub dagstore_line : List ℕ → List ℕ
dagstore_line text = line (codes "dagstore: " ++ text)

-- the line of the block that a refusal is about: its name and its state, in the words of `check`
abbrev pub state_lines : StoreRefusal → List ℕ
state_lines (refusal.Damaged name) = dagstore_line (cid_text name ++ codes " other bytes")
state_lines (refusal.LinksUnread name verdict) =
    dagstore_line (cid_text name ++ (32 ∷ verdict_text verdict))
state_lines (refusal.NoBlock name) = dagstore_line (cid_text name ++ codes " missing")
state_lines told = []

-- the lines of a refusal of the store: its block, if it is about one, and why the store refused
abbrev pub refusal_lines : StoreRefusal → List ℕ
refusal_lines told = state_lines told ++ dagstore_line (refusal_text told)

-- the lines of the fault that ended a run
abbrev pub fault_line : Fault → List ℕ
fault_line (fault.Store told) = refusal_lines told
fault_line (fault.Tool e) = dagstore_line (tool_text e)

-- the status of a run that ended so: 0 if all is well, 1 if not, or the status of its fault
abbrev pub status_of : Result Bool Fault → ℕ
status_of (Ok well) = if well then 0 else 1
status_of (Err (fault.Store told)) = refusal_status told
status_of (Err (fault.Tool e)) = 2

-- nothing is reported of a run that ended well; of another, its fault, as far as the device takes
-- it
abbrev pub TellsRunFault : Result Bool Fault → Option (List ℕ) → Option (List ℕ) → Type 0
TellsRunFault (Ok well) old new = new ≡ old
TellsRunFault (Err e) old new = AppendsFront old new (fault_line e)

-- a run ended so: its status, and what is reported of it after earlier messages
abbrev pub ExitsSo : Result Bool Fault → ℕ → Option (List ℕ) → Option (List ℕ) → Type 0
ExitsSo ended status heard told = (status ≡ status_of ended) × TellsRunFault ended heard told
