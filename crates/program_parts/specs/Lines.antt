-- The lines that programs write about files and blocks, and how a line is written.
use Rattle.std.specs.Prelude.{◌≡◌, ◌⊎◌, ℕ, List, [], ◌∷◌, ◌++◌, length, codes, Bool, true, false, ◌&&◌, Option, Result, Ok, Err, MatchResult, decimal}
use Rattle.std.specs.Io.KnownBytes.{Appends}
use Rattle.dagcbor_core.specs.Appends.{AppendsFront}
use Rattle.text_cid.specs.Texts.{text_of_form, cid_text}
use Rattle.files_car.specs.Car.{Section}
use Rattle.files_car.specs.Told.{Told}
use Rattle.files_car.specs.declared.error.CarError.{CarError}
use Rattle.ipld_links.specs.declared.verdict.Verdict.{Verdict}
use Rattle.ipld_links.specs.declared.verdict.Verdict.TheVariants as verdicts
use Rattle.dagcbor_decode.specs.PrintedNames.{kind_name, variant_name}
use Rattle.ipld_tree.specs.Cid.{CidParts}
use Rattle.program_parts.specs.Codecs.{codec_text}
use Rattle.program_parts.specs.Names.{cid_fault_name, fault_name, pb_cause_name}
use Rattle.text_cid.specs.declared.error.CidTextError.{CidTextError}
use Rattle.program_shared.specs.declared.fault.ToolError.{ToolError}
use Rattle.program_shared.specs.declared.fault.ToolError.TheVariants.{Input, Output, OutOfMemory}

-- the text, and a line feed
abbrev pub line : List ℕ → List ℕ
line said = said ++ 10 ∷ []

-- a verdict in words
abbrev pub verdict_text : Verdict → List ℕ
verdict_text (verdicts.Block kind) = codes "ok " ++ kind_name kind
verdict_text (verdicts.Refused e) = codes "refused " ++ variant_name e
verdict_text verdicts.Node = codes "ok node"
verdict_text (verdicts.NoNode e) = codes "refused " ++ pb_cause_name e.cause
verdict_text verdicts.OtherBytes = codes "other bytes"
verdict_text verdicts.NotRead = codes "not read"
verdict_text verdicts.LinksNotRead = codes "links not read"
verdict_text verdicts.Unverified = codes "not verified"

-- the verdict finds nothing wrong with the block
abbrev pub is_well : Verdict → Bool
is_well (verdicts.Block kind) = true
is_well verdicts.Node = true
is_well verdicts.NotRead = true
is_well verdicts.LinksNotRead = true
is_well _ = false

-- the line of a section: its CID, and the verdict
abbrev pub verdict_line : Told → List ℕ
verdict_line p = line (cid_text p.0.0 ++ (32 ∷ verdict_text p.1))

-- the line of a section: its CID, and the length of its block in bytes, in decimal
abbrev pub listed_line : Section → List ℕ
listed_line s = line (cid_text s.0 ++ (32 ∷ decimal (length s.1)))

-- the line of a CID, given in binary, after a word
abbrev pub named_line : List ℕ → List ℕ → List ℕ
named_line word form = line (word ++ text_of_form form)

-- the line of a missing root or link: its CID, and its codec
abbrev pub missing_line : CidParts → List ℕ
missing_line c = line (codes "missing " ++ (cid_text c ++ (32 ∷ codec_text c.codec)))

-- the line of a root, given in binary
abbrev pub root_line : List ℕ → List ℕ
root_line = named_line (codes "root ")

-- the line of a refused file
abbrev pub refused_line : {E : Type 0} → CarError E → List ℕ
refused_line e = line (codes "refused " ++ fault_name e)

-- the line of a text that should be a CID and is not
abbrev pub no_cid_line : CidTextError → List ℕ
no_cid_line e = line (codes "no CID: " ++ cid_fault_name e)

-- what is said of each, one after the other, and whether all of it is well
abbrev pub IsSaidOfEach : {X : Type 0} → (X → Bool → List ℕ → Type 0) → List X → Bool → List ℕ → Type 0
IsSaidOfEach IsSaid [] well out = (well ≡ true) × (out ≡ [])
IsSaidOfEach IsSaid (x ∷ xs) well out = (first others : Bool) × (line lines : List ℕ)
    × IsSaid x first line × IsSaidOfEach IsSaid xs others lines
    × (well ≡ (first && others)) × (out ≡ line ++ lines)

-- why a text is not written: the device failed, after a prefix of it; or memory ran out, and
-- nothing is written
abbrev pub TextFails : List ℕ → Option (List ℕ) → ToolError → Option (List ℕ) → Type 0
TextFails text before Output after = AppendsFront before after text
TextFails text before OutOfMemory after = after ≡ before
TextFails text before Input after = ⊥

-- the text was written, or not all of it
abbrev pub SaysText : {A : Type 0} → List ℕ
    → Option (List ℕ) → Result A ToolError → Option (List ℕ) → Type 0
SaysText text before (Ok v) after = Appends before after text
SaysText text before (Err e) after = TextFails text before e after

-- the lines of a run broke off: nothing more was written; or the device failed after a prefix of
-- such a line
abbrev pub BreaksLine : (List ℕ → Type 0) → Option (List ℕ) → Option (List ℕ) → ToolError → Type 0
BreaksLine IsLine old new e = Appends old new []
    ⊎ ((front back : List ℕ) × IsLine (front ++ back) × (e ≡ Output) × Appends old new front)

-- the text was written, and the answer is whether all is well; or nothing more was written; or the
-- device failed after a prefix
abbrev pub SaysToDevice : (Bool → List ℕ → Type 0) → Option (List ℕ) → Result Bool ToolError
    → Option (List ℕ) → Type 0
SaysToDevice IsSaid old result new = MatchResult result
    (λ well. (out : List ℕ) × IsSaid well out × Appends old new out)
    (λ e. BreaksLine (λ out. (well : Bool) × IsSaid well out) old new e)

-- these lines were written, and the answer is whether all is well; or not all of them
abbrev pub SaysLines : List ℕ → Bool → Option (List ℕ) → Result Bool ToolError
    → Option (List ℕ) → Type 0
SaysLines said well old (Ok answer) new = (answer ≡ well) × Appends old new said
SaysLines said well old (Err e) new = TextFails said old e new

-- the output and the error lines were written, and the answer is whether all is well; or nothing
-- was written; or a device failed after prefixes of both
abbrev pub SaysBoth : (Bool → List ℕ → List ℕ → Type 0) → Option (List ℕ) → Option (List ℕ)
    → Result Bool ToolError → Option (List ℕ) → Option (List ℕ) → Type 0
SaysBoth IsSaid old heard result new after = MatchResult result
    (λ well. (said told : List ℕ) × IsSaid well said told × Appends old new said
    × Appends heard after told)
    (λ e. (Appends old new [] × Appends heard after [])
    ⊎ ((well : Bool) × (said more told others : List ℕ) × IsSaid well (said ++ more) (told ++ others)
    × (e ≡ Output) × Appends old new said × Appends heard after told))
