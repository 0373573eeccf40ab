-- What the program answers for the bytes of its input.
use Rattle.std.specs.Prelude.{◌≡◌, ◌≢◌, ◌⊎◌, ◌↔◌, ℕ, codes, List, [], ◌++◌, drop, Vec, Bool, true, false, IsTrue, ⊤, Result, Ok, Err, Option, if◌then◌else◌, flat_map}
use Rattle.std.specs.declared.alloc.Global.{Global}
use Rattle.std.specs.declared.convert.Infallible.{Infallible}
use Rattle.dagcbor_core.specs.declared.error.DecodeError.{DecodeError}
use Rattle.dagcbor_core.specs.declared.error.DecodeError.TheVariants.{TrailingData}
use Rattle.ipld_tree.specs.Tree.{Tree}
use Rattle.ipld_tree.specs.Spelling.{IsSpelling}
use Rattle.ipld_tree.specs.Cid.{CidParts}
use Rattle.text_cid.specs.Texts.{cid_text}
use Rattle.text_dag_json.specs.DagJson.{dag_json, has_reserved_key}
use Rattle.text_dag_json.specs.Reading.{ReadsJson}
use Rattle.text_dag_json.specs.declared.error.DagJsonError.{DagJsonError}
use Rattle.dagcbor_decode.specs.Verdicts.{IsRefusedAt}
use Rattle.dagcbor_decode.specs.Blocks.{IsBlock}
use Rattle.dagcbor_decode.specs.TreeKinds.{kind_of}
use Rattle.dag_pb_model.specs.Model.{IsNodeOf}
use Rattle.files_car.specs.Car.{Section}
use Rattle.ipld_links.specs.Names.{block_name}
use Rattle.ipld_links.specs.Blocks.{HasBlock}
use Rattle.ipld_links.specs.Verdicts.{IsVerdict}
use Rattle.files_car.specs.Checks.{ListsMissingInFile}
use Rattle.ipld_links.specs.declared.verdict.Verdict.{Verdict}
use Rattle.ipld_links.specs.declared.verdict.Verdict.TheVariants.{Refused}
use Rattle.dagcbor_decode.specs.PrintedNames.{kind_name}
use Rattle.program_parts.specs.Lines.{line, verdict_line, listed_line, missing_line, root_line, is_well, SaysLines, SaysBoth}
use Rattle.program_parts.specs.Shown.{IsSaidOfNoBlock, reserved_line}
use Rattle.program_dagcar.specs.Lines.{cause_line, section_place_line}
use Rattle.program_dagcar.specs.Speeches.{Speech, beside, SaysBytes}
use Rattle.program_dagcar.specs.Summary.{IsVerdictCounted, IsSummary}
use Rattle.program_dagcar.specs.Help.{help_text, version_text}
use Rattle.ipld_paths.specs.Paths.{segments}
use Rattle.program_dagcar.specs.Finding.{IsGot, IsTreeOfFile}
use Rattle.program_parts.specs.Paths.{IsAnswerOfFile}
use Rattle.program_dagcar.specs.Files.{IsListingOfFile, SaysFileOf}
use Rattle.program_parts.specs.Paths.{path_part}
use Rattle.program_records.specs.Records.{IsRecords, IsRecord}
use Rattle.program_parts.specs.declared.at.Asked.TheVariants as asks
use Rattle.program_dagcar.specs.declared.command.Command.{Command}
use Rattle.program_dagcar.specs.declared.command.Command.TheVariants as commands
use Rattle.program_shared.specs.declared.fault.ToolError.{ToolError}

-- ---- a file

-- the line of a section with its verdict
abbrev pub IsVerdictLine : Section → Bool → List ℕ → Type 0
IsVerdictLine s well text = (v : Verdict) × IsVerdict s v × (well ≡ is_well v)
    × (text ≡ verdict_line (s, v))

-- the error output for a section: if its block is refused, the line with the offset of the fault
abbrev pub TellsPlace : Section → List ℕ → Type 0
TellsPlace s told = ((e : DecodeError Infallible) × (place : ℕ) × IsVerdict s (Refused e) × IsRefusedAt s.1 e place
    × (told ≡ section_place_line s.0 e place))
    ⊎ (((e : DecodeError Infallible) → ¬ IsVerdict s (Refused e)) × (told ≡ []))

-- the lines of missing roots and links; all is well if there are none
pub record AreMissingLines (roots : List (List ℕ)) (sections : List Section) (well : Bool) (text : List ℕ) : Type 0 where
  pub missing : Vec CidParts Global
  pub lists : ListsMissingInFile roots sections missing
  pub lines : text ≡ flat_map missing_line missing.items
  pub wellness : IsTrue well ↔ (missing.items ≡ [])

-- what `check` says: the verdict on each section, then the missing roots and links
abbrev pub check_speech : Speech
check_speech = record {
  of_roots = λ roots. [];
  of_section = IsVerdictLine;
  of_end = AreMissingLines;
  of_fault = λ line. line;
}

-- what `verify` says: the verdict on each section
abbrev pub verify_speech : Speech
verify_speech = record {
  of_roots = λ roots. [];
  of_section = IsVerdictLine;
  of_end = λ roots sections well text. (well ≡ true) × (text ≡ []);
  of_fault = λ line. line;
}

-- what `check --summary` says: how many sections got each verdict
abbrev pub summary_speech : Speech
summary_speech = record {
  of_roots = λ roots. [];
  of_section = IsVerdictCounted;
  of_end = IsSummary;
  of_fault = λ line. line;
}

-- what `list` says: the roots, and then each section
abbrev pub list_speech : Speech
list_speech = record {
  of_roots = λ roots. flat_map root_line roots;
  of_section = λ s well text. (well ≡ true) × (text ≡ listed_line s);
  of_end = λ roots sections well text. (well ≡ true) × (text ≡ []);
  of_fault = λ line. line;
}

-- ---- one block

-- the bytes are a block and then a second block, like a frame of an AT Protocol event stream
abbrev pub AreTwoBlocks : List ℕ → Type 0
AreTwoBlocks b = (place : ℕ) × IsRefusedAt {E = Infallible} b TrailingData place × HasBlock (drop place b)

-- the error line for two blocks in a row
abbrev pub two_blocks_line : List ℕ
two_blocks_line = line (codes "dagcar: two blocks, one after the other: dagcar event reads frames")

abbrev pub IsHint : List ℕ → List ℕ → Type 0
IsHint b hint = (AreTwoBlocks b × (hint ≡ two_blocks_line)) ⊎ ((¬ AreTwoBlocks b) × (hint ≡ []))

-- what `one` and `show` say of bytes that are not a block: the cause and the offset, and a hint if
-- they are two blocks
abbrev pub IsUnreadSaid : List ℕ → Bool → List ℕ → List ℕ → Type 0
IsUnreadSaid b well out told = (fault hint : List ℕ) × IsSaidOfNoBlock b well out fault
    × IsHint b hint × (told ≡ fault ++ hint)

-- what `one` says of bytes: the kind of the block, or why they are not one
abbrev pub IsJudged : List ℕ → Bool → List ℕ → List ℕ → Type 0
IsJudged b well out told = ((t : Tree) × IsBlock b t × (well ≡ true)
    × (out ≡ line (codes "ok " ++ kind_name (kind_of t))) × (told ≡ []))
    ⊎ IsUnreadSaid b well out told

-- the data as a line of DAG-JSON, and a warning if a map in it has the key `/`
abbrev pub IsDataSaid : Tree → Bool → List ℕ → List ℕ → Type 0
IsDataSaid t well out told = (well ≡ true) × (out ≡ line (dag_json t))
    × (told ≡ (if has_reserved_key t then reserved_line else []))

-- What `show` says of bytes: the data of the block. If they are not a block, but a node of DAG-PB,
-- its data model. If they are neither, why they are not a block. Empty bytes are a node too, but
-- are treated as neither.
abbrev pub IsDataShown : List ℕ → Bool → List ℕ → List ℕ → Type 0
IsDataShown b well out told = ((t : Tree) × IsBlock b t × IsDataSaid t well out told)
    ⊎ ((¬ HasBlock b) × (b ≢ []) × ((t : Tree) × IsNodeOf b t × IsDataSaid t well out told))
    ⊎ (((b ≡ []) ⊎ ((t : Tree) → ¬ IsNodeOf b t)) × IsUnreadSaid b well out told)

-- what `make` makes of a text: the block of its data; or nothing, and a line with the cause of the
-- refusal, at an offset that is not specified here
abbrev pub IsMade : List ℕ → Bool → List ℕ → List ℕ → Type 0
IsMade b well out told = ((t : Tree) × ReadsJson b (Ok t) × IsSpelling out t × (well ≡ true)
    × (told ≡ []))
    ⊎ ((e : DagJsonError) × (offset : ℕ) × ReadsJson b (Err e) × (well ≡ false) × (out ≡ [])
    × (told ≡ cause_line e offset))

-- what `name` says of bytes: the CID of the block, with the DAG-CBOR codec and SHA-256 (multicodec
-- table), or why they are not a block
abbrev pub IsNameSaid : List ℕ → Bool → List ℕ → List ℕ → Type 0
IsNameSaid b well out told = (HasBlock b × (well ≡ true) × (out ≡ line (cid_text (block_name b)))
    × (told ≡ [])) ⊎ IsSaidOfNoBlock b well out told

-- ---- a run

-- the exit status of a run: 0 if all is well, 1 if something is wrong, 2 if the run broke off
abbrev pub EndsSo : Result Bool ToolError → ℕ → Type 0
EndsSo (Ok well) status = status ≡ (if well then 0 else 1)
EndsSo (Err e) status = status ≡ 2

-- the speech's lines for the bytes, and on the error output the offset in each refused section
abbrev pub SaysWithPlaces : Speech → List ℕ → Option (List ℕ) → Option (List ℕ) → Result Bool ToolError
    → Option (List ℕ) → Option (List ℕ) → Type 0
SaysWithPlaces speech b old heard ended new after = SaysBytes speech b old ended new
    × SaysBytes (beside TellsPlace) b heard ended after

-- a run of a command on these bytes, and on the text after its words: what the output and the error
-- output hold
abbrev pub RunsCommand : Command → List ℕ → List ℕ → Option (List ℕ) → Option (List ℕ)
    → Result Bool ToolError → Option (List ℕ) → Option (List ℕ) → Type 0
RunsCommand commands.Check text b old heard ended new after = SaysWithPlaces check_speech b old heard ended new after
RunsCommand commands.Verify text b old heard ended new after = SaysWithPlaces verify_speech b old heard ended new after
RunsCommand commands.Summary text b old heard ended new after = SaysBytes summary_speech b old ended new
RunsCommand commands.Help text b old heard ended new after = SaysLines help_text true old ended new
RunsCommand commands.Version text b old heard ended new after = SaysLines version_text true old ended new
RunsCommand commands.List text b old heard ended new after = SaysBytes list_speech b old ended new
RunsCommand commands.Name text b old heard ended new after = SaysBoth (IsNameSaid b) old heard ended new after
RunsCommand commands.One text b old heard ended new after = SaysBoth (IsJudged b) old heard ended new after
RunsCommand commands.Show text b old heard ended new after = SaysBoth (IsDataShown b) old heard ended new after
RunsCommand commands.Make text b old heard ended new after = SaysBoth (IsMade b) old heard ended new after
RunsCommand (commands.Get name) text b old heard ended new after = SaysBoth (IsGot name b) old heard ended new after
RunsCommand (commands.Tree root) text b old heard ended new after = SaysBoth (IsTreeOfFile root b) old heard ended new after
RunsCommand (commands.At root) text b old heard ended new after = SaysBoth (IsAnswerOfFile asks.Data root (segments (path_part text)) b) old heard ended new after
RunsCommand (commands.Raw root) text b old heard ended new after = SaysBoth (IsAnswerOfFile asks.Bytes root (segments (path_part text)) b) old heard ended new after
RunsCommand (commands.Prove root) text b old heard ended new after = SaysBoth (IsAnswerOfFile asks.Proof root (segments (path_part text)) b) old heard ended new after
RunsCommand (commands.Ls root) text b old heard ended new after = SaysBoth (IsListingOfFile root (segments (path_part text)) b) old heard ended new after
RunsCommand (commands.Cat root) text b old heard ended new after = SaysFileOf root (segments (path_part text)) b old heard ended new after
RunsCommand commands.Records text b old heard ended new after = SaysBoth (IsRecords b) old heard ended new after
RunsCommand commands.Record text b old heard ended new after = SaysBoth (IsRecord text b) old heard ended new after

-- the commands that write only faults to the error output
abbrev pub IsQuiet : Command → Type 0
IsQuiet commands.Check = ⊥
IsQuiet commands.Verify = ⊥
IsQuiet commands.Name = ⊥
IsQuiet commands.One = ⊥
IsQuiet commands.Show = ⊥
IsQuiet commands.Make = ⊥
IsQuiet (commands.Get name) = ⊥
IsQuiet (commands.Tree root) = ⊥
IsQuiet (commands.At root) = ⊥
IsQuiet (commands.Raw root) = ⊥
IsQuiet (commands.Prove root) = ⊥
IsQuiet (commands.Ls root) = ⊥
IsQuiet (commands.Cat root) = ⊥
IsQuiet commands.Records = ⊥
IsQuiet commands.Record = ⊥
IsQuiet _ = ⊤
