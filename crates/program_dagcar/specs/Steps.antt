-- What is said of a file, step by step.
use Rattle.std.specs.Prelude.{◌≡◌, ◌∷◌, ℕ, List, [], ◌++◌, ◌&&◌, Vec, Bool, false, Option, Result, Ok, Err, MatchResult, IfOk}
use Rattle.std.specs.Io.KnownBytes.{Appends}
use Rattle.std.specs.declared.alloc.Global.{Global}
use Rattle.dagcbor_heads.specs.Reading.{Reading}
use Rattle.files_car.specs.Car.{Section}
use Rattle.files_car.specs.Sources.{TakesStart}
use Rattle.program_parts.specs.Lines.{BreaksLine, SaysToDevice, SaysLines}
use Rattle.program_dagcar.specs.Speeches.{Speech, SaysFile}
use Rattle.program_parts.specs.declared.take.Ended.{Ended}
use Rattle.program_parts.specs.declared.take.Ended.TheVariants as ended
use Rattle.program_dagcar.specs.declared.walk.Telling.{Telling}
use Rattle.program_shared.specs.declared.fault.ToolError.{ToolError}

-- ---- what a teller knows

-- what a teller knows after these sections of a file with these roots
abbrev pub Knowing : Type 0 → Type 1
Knowing T = T → List (List ℕ) → List Section → Type 0

-- what is known after one more section, whatever came before
abbrev pub KnowsMore : {T : Type 0} → Knowing T → Section → T → T → Type 0
KnowsMore knows s old new = (roots : List (List ℕ)) (sections : List Section)
    → knows old roots sections → knows new roots (sections ++ s ∷ [])

-- what is said at the end of any file after whose sections this is known
abbrev pub SaysAtEnd : {T E : Type 0} → Speech → Knowing T → T → Result (Vec ℕ Global × Bool) E
    → Type 0
SaysAtEnd speech knows teller result = (roots : List (List ℕ)) (sections : List Section)
    → knows teller roots sections → IfOk result (λ p. speech.of_end roots sections p.1 p.0.items)

-- ---- a teller at work

-- the teller, whether all is well so far, what the device holds, and the reference it is written
-- through
pub record Work (T : Type 0) : Type 0 where
  pub teller : T
  pub well : Bool
  pub written : Option (List ℕ)
  pub through : ℕ

-- a teller at work as contracts see it, where `contents` gives the bytes of its output
abbrev pub work_of : {T W V : Type 0} → (W → Option (List ℕ)) → Telling T W V → Work T
work_of contents t = record {
  teller = t.teller;
  well = t.well;
  written = contents t.output.now;
  through = t.output.ghost_name;
}

-- a teller at work as contracts see it, where `contents` gives the bytes of its error output
abbrev pub beside_of : {T W V : Type 0} → (V → Option (List ℕ)) → Telling T W V → Work T
beside_of contents t = record {
  teller = t.teller;
  well = t.well;
  written = contents t.errors.now;
  through = t.errors.ghost_name;
}

-- a section was told, and its lines were written
abbrev pub TellsSection : {T : Type 0} → Speech → Knowing T → Section → Work T → Work T → Type 0
TellsSection speech knows s old new = (well : Bool) × (text : List ℕ)
    × speech.of_section s well text × KnowsMore knows s old.teller new.teller
    × (new.well ≡ (old.well && well)) × Appends old.written new.written text

-- a section was told, and its lines were written, or broke off
abbrev pub SaysSection : {T : Type 0} → Speech → Knowing T → Section → Work T
    → Result (Unit {0}) ToolError → Work T → Type 0
SaysSection speech knows s old result new = (new.through ≡ old.through) × MatchResult result
    (λ _. TellsSection speech knows s old new)
    (λ e. BreaksLine (λ text. (well : Bool) × speech.of_section s well text) old.written new.written e)

-- ---- the end

-- what is said after the sections: the end of a whole file, or the fault
abbrev pub SaysRest : {T : Type 0} → Speech → Knowing T → T → Bool → Result (Ended ToolError) ToolError
    → Option (List ℕ) → Result Bool ToolError → Option (List ℕ) → Type 0
SaysRest speech knows teller well (Ok ended.Whole) before result after =
    (roots : List (List ℕ)) (sections : List Section) → knows teller roots sections
    → SaysToDevice (λ answer text. (end_well : Bool) × speech.of_end roots sections end_well text
    × (answer ≡ (end_well && well))) before result after
SaysRest speech knows teller well (Ok (ended.Stopped e)) before result after =
    (result ≡ Err e) × (after ≡ before)
SaysRest speech knows teller well (Ok (ended.Fault line)) before result after =
    SaysLines (speech.of_fault line.items) false before result after
SaysRest speech knows teller well (Err e) before result after = (result ≡ Err e) × (after ≡ before)

-- ---- the whole

-- what follows a file's header: the length of the file, if known, and the input
pub record Following : Type 0 where
  pub extent : Option ℕ
  pub source : Reading

abbrev pub following : Option ℕ → Reading → Following
following extent source = record { extent = extent; source = source }

-- a call that writes: what the device held before, the answer, and what the device holds after
pub record Run : Type 0 where
  pub before : Option (List ℕ)
  pub answer : Result Bool ToolError
  pub after : Option (List ℕ)

abbrev pub run : Option (List ℕ) → Result Bool ToolError → Option (List ℕ) → Run
run before answer after = record { before = before; answer = answer; after = after }

-- all is said of a file after its header, once its roots were said
abbrev pub SaysSections : {T : Type 0} → Speech → Knowing T → Following → T → Run → Type 0
SaysSections speech knows at teller said =
    (start : Reading) (roots : List (List ℕ)) (old : Option (List ℕ))
    → TakesStart start roots at.extent at.source → knows teller roots []
    → Appends old said.before (speech.of_roots roots) → SaysFile speech start old said.answer said.after

-- all is said of a file after its header, its roots first
abbrev pub SaysHeader : {T : Type 0} → Speech → Knowing T → Following → List ℕ → T → Run → Type 0
SaysHeader speech knows at text teller said =
    (start : Reading) (roots : List (List ℕ))
    → TakesStart start roots at.extent at.source → knows teller roots []
    → text ≡ speech.of_roots roots → SaysFile speech start said.before said.answer said.after
