-- The line that says why reading a file stops.
use Rattle.std.specs.Prelude.{ℕ, List, ◌∷◌, ◌++◌, codes, Bool, true, false}
use Rattle.ipld_tree.specs.Cid.{CidParts}
use Rattle.text_cid.specs.Texts.{cid_text}
use Rattle.program_parts.specs.Lines.{line, missing_line, verdict_text}
use Rattle.files_unix_fs.specs.declared.error.UnixFsCause.{UnixFsCause}
use Rattle.files_unix_fs.specs.declared.error.UnixFsCause.TheVariants as causes
use Rattle.files_unix_fs.specs.declared.file_error.FileError.{FileError}
use Rattle.files_unix_fs.specs.declared.file_error.FileError.TheVariants as errors
use Rattle.program_parts.specs.declared.stop.Stop.{Stop}
use Rattle.program_parts.specs.declared.stop.Stop.TheVariants as stops

-- the name of the cause for which bytes are not a UnixFS message
abbrev pub cause_name : UnixFsCause → List ℕ
cause_name causes.Truncated = codes "Truncated"
cause_name causes.InvalidVarint = codes "InvalidVarint"
cause_name (causes.UnexpectedField tag) = codes "UnexpectedField"
cause_name causes.PackedSizes = codes "PackedSizes"
cause_name (causes.UnknownKind number) = codes "UnknownKind"
cause_name causes.NoKind = codes "NoKind"

-- the name of the refusal's variant, or of its cause if the data is not a UnixFS message
abbrev pub file_error_name : FileError → List ℕ
file_error_name errors.NothingWanted = codes "NothingWanted"
file_error_name errors.TooDeep = codes "TooDeep"
file_error_name (errors.OtherCodec codec) = codes "OtherCodec"
file_error_name (errors.NotANode e) = codes "NotANode"
file_error_name errors.NoData = codes "NoData"
file_error_name (errors.NoMessage e) = cause_name e.cause
file_error_name (errors.NotAFile kind) = codes "NotAFile"
file_error_name errors.EmptyPart = codes "EmptyPart"
file_error_name errors.WrongLinks = codes "WrongLinks"
file_error_name errors.WrongSize = codes "WrongSize"
file_error_name errors.OutOfMemory = codes "OutOfMemory"

-- the refusal is not out of memory
abbrev pub is_cause : FileError → Bool
is_cause errors.OutOfMemory = false
is_cause _ = true

-- the file is the reason, not out of memory
abbrev pub is_of_file : Stop → Bool
is_of_file (stops.NoPart e) = is_cause e
is_of_file _ = true

-- the line about the block of this CID
abbrev pub stop_line : CidParts → Stop → List ℕ
stop_line name stops.Missing = missing_line name
stop_line name (stops.NoBlock verdict) = line (cid_text name ++ (32 ∷ verdict_text verdict))
stop_line name (stops.NoPart e) = line (cid_text name ++ (codes " refused " ++ file_error_name e))
