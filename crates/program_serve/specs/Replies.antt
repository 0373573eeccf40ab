-- The texts of replies.
use Rattle.std.specs.Prelude.{ℕ, List, [], ◌++◌, ◌==◌, ◌&&◌, if◌then◌else◌, length, codes, decimal, flat_map, is_ok, Bool, true, Result, Ok, Err}
use Rattle.text_cid.specs.Texts.{cid_text}
use Rattle.program_parts.specs.Lines.{line}
use Rattle.program_dagstore.specs.Changes.{cid_line}
use Rattle.program_dagstore.specs.Refusals.{refusal_lines}
use Rattle.program_shared.specs.declared.fault.ToolError.TheVariants.{OutOfMemory}
use Rattle.program_dagstore.specs.declared.fault.Fault.{Fault}
use Rattle.program_dagstore.specs.declared.fault.Fault.TheVariants as fault
use Rattle.program_serve.specs.declared.reply.Reply.{Reply}
use Rattle.program_serve.specs.declared.reply.Reply.TheVariants as replies

-- a line with the word and the length of the body in bytes, and then the body
abbrev pub framed : List ℕ → List ℕ → List ℕ
framed word body = line (word ++ (codes " " ++ decimal (length body))) ++ body

abbrev pub well : List ℕ → List ℕ
well body = framed (codes "ok") body

abbrev pub refused : List ℕ → List ℕ
refused body = framed (codes "refused") body

-- the text of a reply
abbrev pub reply_text : Reply → List ℕ
reply_text replies.Done = well []
reply_text replies.Nothing = framed (codes "none") []
reply_text (replies.Block b) = well b.items
reply_text (replies.Name name) = well (cid_text name)
reply_text (replies.Names names) = well (flat_map cid_line names.items)
reply_text (replies.Count n) = well (decimal n)
reply_text (replies.Refused told) = refused (refusal_lines told)

-- the reply to a line that is not a request: the word `bad`, and a line of 12 bytes
abbrev pub bad_text : List ℕ
bad_text = codes "bad 12\nbad request\n"

-- ---- files

-- the reply to an import of this status: its output, or its messages if it is refused
abbrev pub import_text : ℕ → List ℕ → List ℕ → List ℕ
import_text status said told = if status == 0 then well said else refused told

-- an export ended well, and the file took all
abbrev pub is_whole : Result Bool Fault → Bool → Bool
is_whole ended is_out = is_ok ended && is_out

-- the reply to an export that ended so, into a file that took all that was written, or not
abbrev pub export_text : Result Bool Fault → Bool → List ℕ
export_text (Err (fault.Store told)) is_out = refused (refusal_lines told)
export_text (Err (fault.Tool OutOfMemory)) is_out = refused (codes "dagstore: out of memory\n")
export_text (Ok done) true = well []
export_text ended is_out = refused (codes "dagstore: the file takes no more\n")
