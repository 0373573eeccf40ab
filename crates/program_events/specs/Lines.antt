-- The output lines of frames.
use Rattle.std.specs.Prelude.{ℕ, List, [], ◌∷◌, ◌++◌, codes, map, flat_map, string_bytes, Bool, Option, None, Some, option_map, if◌then◌else◌}
use Rattle.ipld_tree.specs.Cid.{CidParts}
use Rattle.atproto_mst.specs.Changes.{Changed}
use Rattle.program_parts.specs.Lines.{line}
use Rattle.types_events.specs.declared.events.CommitEvent.{CommitEvent}
use Rattle.types_events.specs.declared.events.SyncEvent.{SyncEvent}
use Rattle.types_events.specs.declared.events.IdentityEvent.{IdentityEvent}
use Rattle.types_events.specs.declared.events.AccountEvent.{AccountEvent}
use Rattle.types_events.specs.declared.events.InfoEvent.{InfoEvent}
use Rattle.program_records.specs.Keys.{key_text}
use Rattle.program_records.specs.Differing.{name_word}
use Rattle.atproto_events.specs.Operations.{change_of_op}

-- a space and a text, escaped as keys are
abbrev pub text_word : List ℕ → List ℕ
text_word text = 32 ∷ key_text text

-- the line of a word and a text
abbrev pub word_line : List ℕ → List ℕ → List ℕ
word_line word text = line (word ++ text_word text)

-- the line of a word and two texts
abbrev pub two_words_line : List ℕ → List ℕ → List ℕ → List ℕ
two_words_line word first second = line (word ++ (text_word first ++ text_word second))

-- ---- a commit

-- the word for an operation, by the records before and after
abbrev pub operation_word : Option CidParts → Option CidParts → List ℕ
operation_word None new = codes "created "
operation_word (Some old) None = codes "deleted "
operation_word (Some old) (Some new) = codes "updated "

-- the line of an operation: its word, the key, and the CIDs of the record before and after
abbrev pub operation_line : Changed → List ℕ
operation_line c = line (operation_word c.1.0 c.1.1 ++ (key_text c.0 ++ (name_word c.1.0 ++ name_word c.1.1)))

abbrev pub commit_line : CommitEvent → List ℕ
commit_line e = two_words_line (codes "commit") (string_bytes e.repo) (string_bytes e.rev)

-- the line of a commit, with its repository and revision, and then a line for each operation
abbrev pub commit_lines : CommitEvent → List ℕ
commit_lines e = commit_line e ++ flat_map operation_line (map change_of_op e.ops.items)

-- ---- the other kinds

abbrev pub sync_line : SyncEvent → List ℕ
sync_line e = two_words_line (codes "sync") (string_bytes e.did) (string_bytes e.rev)

abbrev pub identity_line : IdentityEvent → List ℕ
identity_line e = word_line (codes "identity") (string_bytes e.did)

abbrev pub info_line : InfoEvent → List ℕ
info_line e = word_line (codes "info") (string_bytes e.name)

abbrev pub activity_word : Bool → List ℕ
activity_word active = if active then codes " active" else codes " inactive"

-- the status of an account, if there is one
abbrev pub status_word : Option (List ℕ) → List ℕ
status_word None = []
status_word (Some status) = text_word status

abbrev pub account_line : AccountEvent → List ℕ
account_line e = line (codes "account" ++ (text_word (string_bytes e.did)
    ++ (activity_word e.active ++ status_word (option_map string_bytes e.status))))
