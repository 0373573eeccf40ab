-- What the program says about the index of a named file.
use Rattle.std.specs.Prelude.{◌≡◌, ◌⊎◌, ◌↔◌, ℕ, List, [], ◌∷◌, ◌++◌, codes, decimal, flat_map, Bool, true, false, IsTrue, ◌&&◌, Option, Result, Ok, Err, MatchResult}
use Rattle.hex.specs.Hex.{encode_lower}
use Rattle.text_cid.specs.Texts.{cid_text}
use Rattle.program_parts.specs.Lines.{line, SaysBoth}
use Rattle.files_index.specs.Index.{EntryParts}
use Rattle.files_index.specs.declared.entries.Format.{Format}
use Rattle.files_index.specs.declared.entries.Format.TheVariants.{ByWidth, ByMultihash}
use Rattle.files_index.specs.declared.entries.IndexFault.{IndexFault}
use Rattle.files_index.specs.declared.entries.IndexFault.TheVariants as faults
use Rattle.files_index.specs.declared.judging.Placed.{Placed}
use Rattle.files_index.specs.declared.judging.Findings.{Findings}
use Rattle.program_index.specs.Judged.{HoldsEntries, IsJudged}
use Rattle.program_index.specs.declared.judged.Listed.{Listed}
use Rattle.program_index.specs.declared.judged.Listed.TheVariants as lists
use Rattle.program_index.specs.declared.judged.Judged.{Judged}
use Rattle.program_index.specs.declared.judged.Judged.TheVariants as judged
use Rattle.program_inspect.specs.Facts.{code_text}
use Rattle.program_inspect.specs.Inspecting.{IsInspected}
use Rattle.program_inspect.specs.declared.facts.Index.{Index}
use Rattle.program_inspect.specs.declared.facts.Index.TheVariants as words
use Rattle.program_inspect.specs.declared.inspect.Form.{Form}
use Rattle.program_dagcar.specs.Answers.{check_speech, SaysWithPlaces}
use Rattle.program_shared.specs.declared.fault.ToolError.{ToolError}

-- ---- lines

abbrev pub format_name : Format → List ℕ
format_name ByWidth = codes "IndexSorted"
format_name ByMultihash = codes "MultihashIndexSorted"

-- an entry: its offset, its hash code if the format has one, and its digest in hexadecimal
abbrev pub entry_line : Format → EntryParts → List ℕ
entry_line ByWidth e = line (decimal e.offset ++ (32 ∷ encode_lower e.digest))
entry_line ByMultihash e = line (decimal e.offset ++ (32 ∷ (code_text e.hash_code ++ (32 ∷ encode_lower e.digest))))

-- the lines of an index: its format, and its entries
abbrev pub listing_text : Format → List EntryParts → List ℕ
listing_text f es = line (codes "index " ++ format_name f) ++ flat_map (entry_line f) es

-- an entry with a fault, after a word for the fault
abbrev pub finding_line : List ℕ → EntryParts → List ℕ
finding_line word e = line (word ++ (32 ∷ (decimal e.offset ++ (32 ∷ encode_lower e.digest))))

-- a section that no right entry leads to: its CID, and its offset
abbrev pub unlisted_line : Placed → List ℕ
unlisted_line p = line (codes "unlisted " ++ (cid_text p.cid ++ (32 ∷ decimal p.offset)))

abbrev pub findings_text : Findings → List ℕ
findings_text it = flat_map (finding_line (codes "wrong")) it.wrong.items
    ++ (flat_map (finding_line (codes "unordered")) it.unordered.items
    ++ flat_map unlisted_line it.unlisted.items)

-- the number of entries
abbrev pub count_line : ℕ → List ℕ
count_line n = line (codes "entries " ++ decimal n)

abbrev pub no_index_line : List ℕ
no_index_line = line (codes "refused NoIndex")

-- the line that says why the bytes in the place of an index are not one
abbrev pub index_fault_line : IndexFault → List ℕ
index_fault_line faults.Truncated = line (codes "refused IndexTruncated")
index_fault_line faults.UnknownFormat = line (codes "refused IndexFormat")
index_fault_line faults.Width = line (codes "refused IndexWidth")
index_fault_line faults.Order = line (codes "refused IndexOrder")
index_fault_line faults.Length = line (codes "refused IndexLength")

-- ---- the output

-- the only line is this error line, and something is wrong
abbrev pub IsToldAlone : List ℕ → Bool → List ℕ → List ℕ → Type 0
IsToldAlone text well out told = (well ≡ false) × (out ≡ []) × (told ≡ text)

-- nothing is wrong with an index
abbrev pub AreNone : Findings → Type 0
AreNone it = (it.wrong.items ≡ []) × (it.unordered.items ≡ []) × (it.unlisted.items ≡ [])

-- what `list --index` says about what an index holds
abbrev pub IsListingSaid : Listed → Bool → List ℕ → List ℕ → Type 0
IsListingSaid lists.NoIndex well out told = IsToldAlone no_index_line well out told
IsListingSaid (lists.NoEntries e) well out told = IsToldAlone (index_fault_line e) well out told
IsListingSaid (lists.Index l) well out told = (well ≡ true) × (out ≡ listing_text l.format l.entries.items) × (told ≡ [])

-- what `list --index` says about a file
abbrev pub AreEntriesSaid : List ℕ → Bool → List ℕ → List ℕ → Type 0
AreEntriesSaid b well out told = (it : Listed) × HoldsEntries b it × IsListingSaid it well out told

-- what `check --index` says about what was found wrong with an index: each finding, and the number
-- of entries. All is well exactly if nothing was found.
abbrev pub IsJudgementSaid : Judged → Bool → List ℕ → List ℕ → Type 0
IsJudgementSaid judged.NoIndex well out told = IsToldAlone no_index_line well out told
IsJudgementSaid (judged.NoFile text) well out told = IsToldAlone text.items well out told
IsJudgementSaid (judged.NoEntries e) well out told = IsToldAlone (index_fault_line e) well out told
IsJudgementSaid (judged.Found it) well out told = (IsTrue well ↔ AreNone it.findings)
    × (out ≡ findings_text it.findings ++ count_line it.count) × (told ≡ [])

-- what `check --index` says about a file
abbrev pub IsIndexJudged : List ℕ → Bool → List ℕ → List ℕ → Type 0
IsIndexJudged b well out told = (it : Judged) × IsJudged b it × IsJudgementSaid it well out told

-- what `check` says about an index, after what it says about the file: each finding. Nothing for a
-- file without an index, or for bytes that are not a CAR file, which `check` has reported already.
abbrev pub IsBesideSaid : Judged → Bool → List ℕ → List ℕ → Type 0
IsBesideSaid judged.NoIndex well out told = (well ≡ true) × (out ≡ []) × (told ≡ [])
IsBesideSaid (judged.NoFile text) well out told = (well ≡ true) × (out ≡ []) × (told ≡ [])
IsBesideSaid (judged.NoEntries e) well out told = IsToldAlone (index_fault_line e) well out told
IsBesideSaid (judged.Found it) well out told = (IsTrue well ↔ AreNone it.findings)
    × (out ≡ findings_text it.findings) × (told ≡ [])

abbrev pub IsIndexBeside : List ℕ → Bool → List ℕ → List ℕ → Type 0
IsIndexBeside b well out told = (it : Judged) × IsJudged b it × IsBesideSaid it well out told

-- all is well if the file is, and what follows is
abbrev pub and_well : Bool → Result Bool ToolError → Result Bool ToolError
and_well first (Ok second) = Ok (first && second)
and_well first (Err e) = Err e

-- what `check` says about a random-access file: the same as for any file, and then about the index
abbrev pub SaysChecked : List ℕ → Option (List ℕ) → Option (List ℕ) → Result Bool ToolError
    → Option (List ℕ) → Option (List ℕ) → Type 0
SaysChecked b old heard ended new after = (first : Result Bool ToolError) × (mid known : Option (List ℕ))
    × SaysWithPlaces check_speech b old heard first mid known
    × MatchResult first
    (λ well. (second : Result Bool ToolError) × SaysBoth (IsIndexBeside b) mid known second new after
    × (ended ≡ and_well well second))
    (λ e. (ended ≡ Err e) × (new ≡ mid) × (after ≡ known))

-- ---- `inspect`

-- the word for an index, given the judgement: `yes` if there is no index, or the bytes are not a
-- CAR file
abbrev pub IsWordOf : Judged → Index → Type 0
IsWordOf judged.NoIndex word = word ≡ words.There
IsWordOf (judged.NoFile text) word = word ≡ words.There
IsWordOf (judged.NoEntries e) word = word ≡ words.Wrong
IsWordOf (judged.Found it) word = ((word ≡ words.Right) × AreNone it.findings) ⊎ ((word ≡ words.Wrong) × (¬ AreNone it.findings))

-- what `inspect` says about a random-access file
abbrev pub IsInspectedHere : Form → List ℕ → Bool → List ℕ → List ℕ → Type 0
IsInspectedHere form b well out told = (it : Judged) × (word : Index) × IsJudged b it × IsWordOf it word
    × IsInspected form word b well out told
