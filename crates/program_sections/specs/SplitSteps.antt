-- The steps of `split`.
use Rattle.std.specs.Prelude.{◌≡◌, ◌≢◌, ◌⊎◌, ℕ, ◌+◌, ◌-◌, List, [], ◌∷◌, length, nat_le, not, ◌||◌, Bool, true, false, MatchBool, Option, Some, Result, Ok, Err, MatchResult, string_bytes, ⊤}
use Rattle.std.specs.Io.KnownBytes.{Appends}
use Rattle.dagcbor_heads.specs.Reading.{Reading}
use Rattle.ipld_tree.specs.Cid.{CidParts}
use Rattle.dagcbor_items.specs.Walks.{forms}
use Rattle.files_car.specs.Car.{Section, section_bytes, header_bytes}
use Rattle.files_car.specs.Sources.{TakesStart}
use Rattle.program_parts.specs.Lines.{TextFails}
use Rattle.program_parts.specs.declared.take.Ended.{Ended}
use Rattle.program_parts.specs.declared.take.Ended.TheVariants as ended
use Rattle.program_sections.specs.NewFiles.{Named, AddsFiles}
use Rattle.program_sections.specs.Parts.{part_name, roots_of_parts}
use Rattle.program_sections.specs.Splitting.{IsSplitOf, IsSplitFront, Splits, Making, there_line}
use Rattle.program_sections.specs.Steps.{Following}
use Rattle.program_sections.specs.declared.split_words.Split.{Split}
use Rattle.program_sections.specs.declared.split.SplitEnd.{SplitEnd}
use Rattle.program_sections.specs.declared.split.SplitEnd.TheVariants as ends
use Rattle.program_sections.specs.declared.part.Plan.{Plan}
use Rattle.program_sections.specs.declared.part.Part.{Part}
use Rattle.program_sections.specs.declared.part.Splitting.{Splitting}
use Rattle.program_sections.specs.declared.part.PartFault.{PartFault}
use Rattle.program_sections.specs.declared.part.PartFault.TheVariants as faults
use Rattle.program_shared.specs.declared.fault.ToolError.{ToolError}

-- ---- one part

-- The part with this number is begun: its file holds only the header, if the finished files are
-- known.
pub record IsBegun {F : Type 0} (contents : F → Option (List ℕ)) (plan : Plan) (number : ℕ) (whole : Option (List Named)) (p : Part F) : Type 0 where
  pub number_is : p.number ≡ number
  pub room : p.room ≡ plan.asked.now.size - length plan.header.items
  pub none : p.holds ≡ false
  pub bytes : (before : List Named) → whole ≡ Some before → contents p.file ≡ Some plan.header.items

-- the file name of this part is taken; or another fault
abbrev pub IsFaultOf : Plan → ℕ → (List ℕ → Option Bool) → PartFault → Type 0
IsFaultOf plan number has (faults.Exists name) = (string_bytes name ≡ part_name plan.asked.now.prefix.now number)
    × (has (string_bytes name) ≢ Some false)
IsFaultOf plan number has (faults.Failed e) = ⊤

-- the part with this number, whose file holds this, is finished; or no more is
abbrev pub FinishesPart : Plan → ℕ → Option (List ℕ) → Option (List Named) → Result (Unit {0}) ToolError
    → Option (List Named) → Type 0
FinishesPart plan number written old result new = MatchResult result
    (λ _. (b : List ℕ) → written ≡ Some b → AddsFiles old new ((part_name plan.asked.now.prefix.now number, b) ∷ []))
    (λ _. new ≡ old)

-- ---- a split at work

-- the plan, the files finished, the names that are taken, what the file of the current part holds,
-- its number, how many more bytes it may have, whether it has a section, and the reference the
-- files are made through
pub record Work : Type 0 where
  pub plan : Plan
  pub whole : Option (List Named)
  pub has : List ℕ → Option Bool
  pub written : Option (List ℕ)
  pub number : ℕ
  pub room : ℕ
  pub holds : Bool
  pub through : ℕ

-- a split at work as contracts see it, given the files finished, the names that are taken, and what
-- the current file holds
abbrev pub splitting_work : {N F : Type 0} → (N → Option (List Named)) → (N → List ℕ → Option Bool) → (F → Option (List ℕ))
    → Splitting N F → Work
splitting_work whole has contents s = record {
  plan = s.plan.now;
  whole = whole s.files.now;
  has = has s.files.now;
  written = contents s.part.file;
  number = s.part.number;
  room = s.part.room;
  holds = s.part.holds;
  through = s.files.ghost_name;
}

-- `n` more bytes go into the current part
abbrev pub goes_in : Work → ℕ → Bool
goes_in w n = not w.holds || nat_le n w.room

-- the current part was finished
abbrev pub IsFinished : Work → Work → Type 0
IsFinished old new = (b : List ℕ) → old.written ≡ Some b
    → AddsFiles old.whole new.whole ((part_name old.plan.asked.now.prefix.now old.number, b) ∷ [])

-- and the next was begun
pub record IsNext (old new : Work) : Type 0 where
  pub finished : IsFinished old new
  pub number_is : new.number ≡ old.number + 1
  pub room_is : new.room ≡ old.plan.asked.now.size - length old.plan.header.items
  pub bytes : (before : List Named) → new.whole ≡ Some before → new.written ≡ Some old.plan.header.items

-- no more parts were finished, because of a fault other than a taken name; or the current one was,
-- but the next was not begun, or its file failed
abbrev pub StopsNext : Work → PartFault → Work → Type 0
StopsNext old why new = ((new.whole ≡ old.whole) × ((e : ToolError) × (why ≡ faults.Failed e)))
    ⊎ (IsFinished old new × IsFaultOf old.plan (old.number + 1) new.has why)

-- the next part was begun
abbrev pub BeginsNext : Work → Result (Unit {0}) PartFault → Work → Type 0
BeginsNext old result new = (new.through ≡ old.through) × (new.plan ≡ old.plan) × MatchResult result
    (λ _. IsNext old new) (λ why. StopsNext old why new)

-- `n` more bytes go into the current part, which may be the next one
abbrev pub HasRoom : Work → ℕ → Work → Type 0
HasRoom old n new = MatchBool (goes_in old n) (new ≡ old) (IsNext old new)

abbrev pub MakesRoom : ℕ → Work → Result (Unit {0}) PartFault → Work → Type 0
MakesRoom n old result new = (new.through ≡ old.through) × (new.plan ≡ old.plan) × MatchResult result
    (λ _. HasRoom old n new) (λ why. (goes_in old n ≡ false) × StopsNext old why new)

-- the bytes were written to the part
pub record IsPut (b : List ℕ) (old new : Work) : Type 0 where
  pub bytes : Appends old.written new.written b
  pub number_same : new.number ≡ old.number
  pub room_is : new.room ≡ old.room - length b
  pub some : new.holds ≡ true

abbrev pub PutsBytes : List ℕ → Work → Result (Unit {0}) PartFault → Work → Type 0
PutsBytes b old result new = (new.through ≡ old.through) × (new.plan ≡ old.plan) × (new.whole ≡ old.whole)
    × MatchResult result (λ _. IsPut b old new) (λ why. (e : ToolError) × (why ≡ faults.Failed e))

-- a section was written to the current part or to the next; or to none
abbrev pub SplitsSection : Section → Work → Result (Unit {0}) PartFault → Work → Type 0
SplitsSection s old result new = (new.through ≡ old.through) × (new.plan ≡ old.plan) × MatchResult result
    (λ _. (mid : Work) × HasRoom old (length (section_bytes s)) mid × (new.whole ≡ mid.whole)
    × IsPut (section_bytes s) mid new)
    (λ why. ((new.whole ≡ old.whole) × ((e : ToolError) × (why ≡ faults.Failed e)))
    ⊎ ((goes_in old (length (section_bytes s)) ≡ false) × IsFinished old new
    × IsFaultOf old.plan (old.number + 1) new.has why))

-- ---- the whole

-- the header is that of the parts of a file with these roots
abbrev pub IsPlanOf : List CidParts → Plan → Type 0
IsPlanOf roots plan = plan.header.items ≡ header_bytes (forms (roots_of_parts plan.asked.now.roots.items roots))

-- the files finished, and the names that are taken
pub record Made : Type 0 where
  pub whole : Option (List Named)
  pub has : List ℕ → Option Bool

abbrev pub made : Option (List Named) → (List ℕ → Option Bool) → Made
made whole has = record { whole = whole; has = has }

-- the current part: its number, and what its file holds
pub record Begun : Type 0 where
  pub number : ℕ
  pub written : Option (List ℕ)

abbrev pub begun : {F : Type 0} → (F → Option (List ℕ)) → Part F → Begun
begun contents p = record { number = p.number; written = contents p.file }

-- the last part was finished, or no more was
abbrev pub FinishesLast : Plan → Ended PartFault → Begun → Made → Result (Ended PartFault) ToolError → Made → Type 0
FinishesLast plan ended last old result new = MatchResult result
    (λ end. (end ≡ ended) × ((b : List ℕ) → last.written ≡ Some b → AddsFiles old.whole new.whole
    ((part_name plan.asked.now.prefix.now last.number, b) ∷ [])))
    (λ _. new.whole ≡ old.whole)

-- the last part was finished, if all sections there were read
abbrev pub EndsParts : Plan → Result (Ended PartFault) ToolError → Begun → Made → Result (Ended PartFault) ToolError → Made
    → Type 0
EndsParts plan (Ok ended.Whole) last old result new =
    FinishesLast plan ended.Whole last old result new
EndsParts plan (Ok (ended.Fault line)) last old result new =
    FinishesLast plan (ended.Fault line) last old result new
EndsParts plan (Ok (ended.Stopped why)) last old result new = (result ≡ Ok (ended.Stopped why)) × (new ≡ old)
EndsParts plan (Err e) last old result new = (result ≡ Err e) × (new ≡ old)

-- only the first parts were finished
abbrev pub BreaksParts : Split → List ℕ → Making → Type 0
BreaksParts asked b m = (files : List Named) × IsSplitFront asked b files × AddsFiles m.old m.new files

-- how far the sections were split, and which parts were finished
abbrev pub SplitsEnded : Split → List ℕ → Result (Ended PartFault) ToolError → Making → Type 0
SplitsEnded asked b (Ok ended.Whole) m = (files : List Named)
    × IsSplitOf asked b m.has ends.Whole files [] × AddsFiles m.old m.new files
SplitsEnded asked b (Ok (ended.Fault line)) m = (files : List Named)
    × IsSplitOf asked b m.has ends.Fault files line.items × AddsFiles m.old m.new files
SplitsEnded asked b (Ok (ended.Stopped (faults.Exists name))) m = (files : List Named)
    × IsSplitOf asked b m.has ends.Exists files (there_line (string_bytes name)) × AddsFiles m.old m.new files
SplitsEnded asked b (Ok (ended.Stopped (faults.Failed e))) m = BreaksParts asked b m
SplitsEnded asked b (Err e) m = BreaksParts asked b m

-- the sections after the header with these roots were split
abbrev pub SplitsSections : Plan → Option ℕ → Reading → Result (Ended PartFault) ToolError → Making → Type 0
SplitsSections plan extent source result m = (start : Reading) (roots : List CidParts) (b : List ℕ)
    → TakesStart start (forms roots) extent source → start.left ≡ Some b → IsPlanOf roots plan
    → SplitsEnded plan.asked.now b result m

-- the split ended thus, and the line was written; or not all of it
abbrev pub EndsTold : SplitEnd → List ℕ → Option (List ℕ) → Result SplitEnd ToolError → Option (List ℕ) → Type 0
EndsTold end line heard (Ok answer) after = (answer ≡ end) × Appends heard after line
EndsTold end line heard (Err e) after = TextFails line heard e after

-- the error output for how far the sections were split
abbrev pub TellsSplit : Result (Ended PartFault) ToolError → Option (List ℕ) → Result SplitEnd ToolError
    → Option (List ℕ) → Type 0
TellsSplit (Ok ended.Whole) heard result after = (result ≡ Ok ends.Whole) × (after ≡ heard)
TellsSplit (Ok (ended.Fault line)) heard result after = EndsTold ends.Fault line.items heard result after
TellsSplit (Ok (ended.Stopped (faults.Exists name))) heard result after =
    EndsTold ends.Exists (there_line (string_bytes name)) heard result after
TellsSplit (Ok (ended.Stopped (faults.Failed e))) heard result after = (result ≡ Err e) × (after ≡ heard)
TellsSplit (Err e) heard result after = (result ≡ Err e) × (after ≡ heard)

-- the file with these roots was split, from the input after its header
abbrev pub SplitsAfter : Split → List CidParts → Following → Making → Option (List ℕ) → Result SplitEnd ToolError
    → Option (List ℕ) → Type 0
SplitsAfter asked roots at m heard result after = (start : Reading) (b : List ℕ)
    → TakesStart start (forms roots) at.extent at.source → start.left ≡ Some b → Splits asked b m heard result after
