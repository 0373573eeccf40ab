-- UnixFS: the message `Data` in the data of a DAG-PB node (UnixFS specification), as protocol
-- buffers. If a field comes twice, the later one counts.
use Rattle.std.specs.Prelude.{ℕ, zero, suc, ◌-◌, ◌^◌, ◌==◌, nat_lt, List, [], ◌∷◌, length, if◌then◌else◌, Option, None, Some, Result, Ok, Err}
use Rattle.files_unix_fs.specs.Fields.{Front, after, Value, number, bytes, field_of, found_in}
use Rattle.files_unix_fs.specs.declared.kind.Kind.{Kind}
use Rattle.files_unix_fs.specs.declared.kind.Kind.TheVariants.{Raw, Directory, File, Metadata, Symlink, HamtShard}
use Rattle.files_unix_fs.specs.declared.error.UnixFsCause.{UnixFsCause}
use Rattle.files_unix_fs.specs.declared.error.UnixFsCause.TheVariants.{UnexpectedField, PackedSizes, UnknownKind, NoKind}
use Rattle.files_unix_fs.specs.declared.error.UnixFsError.{UnixFsError}

-- the parts of a message; the block sizes are those of the contents below its node's links
pub record UnixFsParts : Type 0 where
  pub kind : Kind
  pub content : Option (List ℕ)
  pub file_size : Option ℕ
  pub block_sizes : List ℕ
  pub hash_type : Option ℕ
  pub fanout : Option ℕ

-- field 1, `Type`: the kind with this number
abbrev pub kind_of : ℕ → Option Kind
kind_of n = if n == 0 then Some Raw else if n == 1 then Some Directory else if n == 2 then Some File
    else if n == 3 then Some Metadata else if n == 4 then Some Symlink
    else if n == 5 then Some HamtShard else None

-- ---- the values of fields

pub record SaidParts : Type 0 where
  pub kind : Option Kind
  pub content : Option (List ℕ)
  pub file_size : Option ℕ
  pub hash_type : Option ℕ
  pub fanout : Option ℕ

abbrev pub nothing_said : SaidParts
nothing_said = record { kind = None; content = None; file_size = None; hash_type = None; fanout = None }

-- fields 7 and above are skipped, up to the greatest number of a field, 2 ^ 29 - 1
abbrev pub with_other : ℕ → SaidParts → Result SaidParts UnixFsCause
with_other tag said =
    if nat_lt tag 0x38 then Err (UnexpectedField tag)
    else if nat_lt tag (2 ^ 32) then Ok said else Err (UnexpectedField tag)

abbrev pub with_kind : ℕ → Option Kind → SaidParts → Result SaidParts UnixFsCause
with_kind n None said = Err (UnknownKind n)
with_kind n (Some kind) said = Ok (record said { kind = Some kind })

-- fields of numbers: 1 `Type`, 3 `filesize`, 4 `blocksizes`, 5 `hashType` and 6 `fanout`
unfoldable pub with_number : ℕ → ℕ → SaidParts → Result SaidParts UnixFsCause
with_number tag n said =
    if tag == 0x08 then with_kind n (kind_of n) said
    else if tag == 0x18 then Ok (record said { file_size = Some n })
    else if tag == 0x20 then Ok said
    else if tag == 0x28 then Ok (record said { hash_type = Some n })
    else if tag == 0x30 then Ok (record said { fanout = Some n })
    else with_other tag said

-- fields of bytes: 2 `Data`; packed sizes are refused
unfoldable pub with_bytes : ℕ → List ℕ → SaidParts → Result SaidParts UnixFsCause
with_bytes tag s said =
    if tag == 0x12 then Ok (record said { content = Some s })
    else if tag == 0x22 then Err PackedSizes
    else with_other tag said

abbrev pub with_field : ℕ × Value → SaidParts → Result SaidParts UnixFsCause
with_field (tag, number n) said = with_number tag n said
with_field (tag, bytes s) said = with_bytes tag s said

abbrev pub then_rest : List ℕ → Result SaidParts UnixFsCause → Front SaidParts
then_rest rest (Ok said) = Ok (said, rest)
then_rest rest (Err cause) = Err cause

-- the values with the first field added
unfoldable pub said_next : SaidParts → List ℕ → Front SaidParts
said_next said b = after (field_of b) λ field rest. then_rest rest (with_field field said)

-- ---- the message

abbrev pub or_at : List ℕ → List ℕ → Front SaidParts → (SaidParts → List ℕ → Result SaidParts UnixFsError) → Result SaidParts UnixFsError
or_at message b (Ok (said, rest)) f = f said rest
or_at message b (Err cause) f = Err (record { cause = cause; place = length message - length b })

-- the values with all fields of these last bytes of the message added; as many steps as bytes are
-- enough, because a field has at least one byte
unfoldable pub said_from : List ℕ → ℕ → SaidParts → List ℕ → Result SaidParts UnixFsError
said_from message steps said [] = Ok said
said_from message zero said (first ∷ b) = Ok said
said_from message (suc steps) said (first ∷ b) =
    or_at message (first ∷ b) (said_next said (first ∷ b)) (said_from message steps)

unfoldable pub said_of : List ℕ → Result SaidParts UnixFsError
said_of message = said_from message (length message) nothing_said message

-- the size in a field 4
abbrev pub size_in : ℕ × Value → List ℕ
size_in (tag, number n) = if tag == 0x20 then n ∷ [] else []
size_in (tag, bytes s) = []

unfoldable pub sizes_of : List ℕ → List ℕ
sizes_of = found_in size_in

-- the parts of the message, if it has a kind
abbrev pub whole : List ℕ → SaidParts → Option Kind → Result UnixFsParts UnixFsError
whole message said None = Err (record { cause = NoKind; place = length message })
whole message said (Some kind) = Ok (record {
  kind = kind;
  content = said.content;
  file_size = said.file_size;
  block_sizes = sizes_of message;
  hash_type = said.hash_type;
  fanout = said.fanout;
})

abbrev pub whole_of : List ℕ → Result SaidParts UnixFsError → Result UnixFsParts UnixFsError
whole_of message (Ok said) = whole message said said.kind
whole_of message (Err e) = Err e

-- the parts of the message, or why the bytes are not a message
unfoldable pub unix_fs_of : List ℕ → Result UnixFsParts UnixFsError
unix_fs_of message = whole_of message (said_of message)
