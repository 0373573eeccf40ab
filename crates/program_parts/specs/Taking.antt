-- How a CAR file is taken section by section, by any sink.
use Rattle.std.specs.Prelude.{◌≡◌, ◌⊎◌, ◌∷◌, ◌++◌, ℕ, List, [], ⊤, Option, Some, Result, Ok, Err, IfOk, MatchResult, Vec}
use Rattle.std.specs.declared.alloc.Global.{Global}
use Rattle.std.specs.declared.convert.Infallible.{Infallible}
use Rattle.dagcbor_heads.specs.Reading.{Reading}
use Rattle.ipld_tree.specs.Cid.{CidParts}
use Rattle.dagcbor_items.specs.Walks.{forms}
use Rattle.files_car.specs.Car.{Section}
use Rattle.files_car.specs.Each.{SinkTakes}
use Rattle.files_car.specs.Sources.{RefusesStart, RefusesSection, TakesStart}
use Rattle.files_car.specs.Checks.{IsFileFront, IsNoFile}
use Rattle.files_car.specs.Versions.{IsFile}
use Rattle.files_car.specs.declared.error.CarError.{CarError}
use Rattle.files_car.specs.declared.error.CarError.TheVariants as faults
use Rattle.program_parts.specs.Lines.{refused_line}
use Rattle.files_car.specs.declared.each.ReadCarError.{ReadCarError}
use Rattle.files_car.specs.declared.each.ReadCarError.TheVariants as stop
use Rattle.program_parts.specs.declared.take.Ended.{Ended}
use Rattle.program_parts.specs.declared.take.Ended.TheVariants as ended
use Rattle.program_shared.specs.declared.fault.ToolError.{ToolError}

-- the refusal is about the bytes
abbrev pub IsOfBytes : {E : Type 0} → CarError E → Type 0
IsOfBytes (faults.Read f) = ⊥
IsOfBytes faults.OutOfMemory = ⊥
IsOfBytes _ = ⊤

-- each of the sections was taken, one after the other
abbrev pub TookEach : {S Stop : Type 0} → SinkTakes S Stop → S → List Section → S → Type 0
TookEach takes old [] new = new ≡ old
TookEach {S} takes old (s ∷ ss) new = (it : S) × takes s old (Ok tt) it × TookEach takes it ss new

-- the bytes begin with a file with these roots, and its first sections were taken, which are these
pub record TakesFileFront {S Stop : Type 0} (takes : SinkTakes S Stop) (roots : List (List ℕ)) (b : List ℕ) (old new : S) : Type 0 where
  pub sections : List Section
  pub wanting : ℕ
  pub rest : List ℕ
  pub front : IsFileFront b roots sections wanting rest
  pub took : TookEach takes old sections new

-- the bytes are that file, and all of its sections were taken
pub record TakesWhole {S Stop : Type 0} (takes : SinkTakes S Stop) (roots : List (List ℕ)) (b : List ℕ) (old new : S) : Type 0 where
  pub sections : List Section
  pub file : IsFile b roots sections
  pub took : TookEach takes old sections new

-- the section after such sections was refused by the sink
pub record StopsAtSection {S Stop : Type 0} (takes : SinkTakes S Stop) (roots : List (List ℕ)) (b : List ℕ) (old : S) (stop : Stop) (new : S) : Type 0 where
  pub it : S
  pub first : TakesFileFront takes roots b old it
  pub section : Section
  pub wanting : ℕ
  pub rest : List ℕ
  pub front : IsFileFront b roots (first.sections ++ section ∷ []) wanting rest
  pub refused : takes section it (Err stop) new

-- what follows such sections is not a whole section, for this cause
pub record FaultAfter {S Stop : Type 0} (takes : SinkTakes S Stop) (roots : List (List ℕ)) (b : List ℕ) (old : S) (e : CarError Infallible) (new : S) : Type 0 where
  pub first : TakesFileFront takes roots b old new
  pub none : IsNoFile b
  pub refuses : RefusesSection first.wanting e first.rest

-- how far a file was taken after its header with these roots
abbrev pub EndsAt : {S Stop : Type 0} → SinkTakes S Stop → List (List ℕ) → List ℕ → S → Ended Stop → S
    → Type 0
EndsAt takes roots b old ended.Whole new = TakesWhole takes roots b old new
EndsAt takes roots b old (ended.Stopped stop) new = StopsAtSection takes roots b old stop new
EndsAt takes roots b old (ended.Fault line) new = (e : CarError Infallible)
    × FaultAfter takes roots b old e new × (line.items ≡ refused_line e)

-- All sections after the header were taken, or the first ones.
abbrev pub TakesAfter : {S Stop : Type 0} → SinkTakes S Stop → Option ℕ → Reading → S
    → Result (Ended Stop) ToolError → S → Type 0
TakesAfter takes extent source old result new = (start : Reading) (roots : List (List ℕ))
    → TakesStart start roots extent source → (b : List ℕ) → start.left ≡ Some b → MatchResult result
    (λ ended. EndsAt takes roots b old ended new) (λ _. TakesFileFront takes roots b old new)

-- ---- refusals

-- the line is that of a refusal
abbrev pub IsFaultLine : {Stop : Type 0} → Ended Stop → List ℕ → Type 0
IsFaultLine (ended.Fault line) text = line.items ≡ text
IsFaultLine _ text = ⊥

-- a refusal of the bytes is reported as a line
abbrev pub EndsByFault : {E Stop : Type 0} → CarError E → Result (Ended Stop) ToolError → Type 0
EndsByFault e result = IfOk result (λ ended. IsFaultLine ended (refused_line e) × IsOfBytes e)

-- the refusal of a run is reported: one of the bytes as a line, and one of the sink as it is
abbrev pub EndsBy : {E Stop : Type 0} → ReadCarError E Stop → Result (Ended Stop) ToolError → Type 0
EndsBy (stop.Header e) result = EndsByFault e result
EndsBy (stop.Section count e) result = EndsByFault e result
EndsBy (stop.Block count name why) result = result ≡ Ok (ended.Stopped why)

-- ---- the whole

-- the header is refused, and a line says why
abbrev pub TellsNotBegun : {Stop : Type 0} → List ℕ → Ended Stop → Type 0
TellsNotBegun b (ended.Fault line) = (e : CarError Infallible) × IsNoFile b × RefusesStart e b
    × (line.items ≡ refused_line e)
TellsNotBegun b _ = ⊥

-- How far the bytes were taken as a CAR file, and its roots: not at all, without roots; or thus far
-- after a header.
abbrev pub TakesAll : {S Stop : Type 0} → SinkTakes S Stop → List ℕ → S → Vec CidParts Global × Ended Stop
    → S → Type 0
TakesAll takes b old p new = (TellsNotBegun b p.1 × (p.0.items ≡ []) × (new ≡ old))
    ⊎ EndsAt takes (forms p.0.items) b old p.1 new

-- how far the bytes left in the source, if these are known, were taken as a CAR file
abbrev pub TakesFile : {S Stop : Type 0} → SinkTakes S Stop → Reading → S
    → Result (Vec CidParts Global × Ended Stop) ToolError → S → Type 0
TakesFile takes source old result new = IfOk result (λ p. (b : List ℕ)
    → source.left ≡ Some b → TakesAll takes b old p new)
