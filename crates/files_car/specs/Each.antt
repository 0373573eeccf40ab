-- The sections of a CAR file, passed one by one to a sink.
use Rattle.std.specs.Prelude.{◌≡◌, ◌⊎◌, ℕ, ◌-◌, ◌^◌, List, [], ◌∷◌, length, Bool, Option, Result, Ok, Err, MatchBool, MatchResult}
use Rattle.dagcbor_heads.specs.Reading.{Reading}
use Rattle.files_car.specs.Car.{Section}
use Rattle.files_car.specs.Extents.{of_file, EndsThere}
use Rattle.files_car.specs.Sources.{CarRefuses, RefusesNext, TakesSectionBytes, LacksMemoryIf, SectionLacks}
use Rattle.files_car.specs.declared.error.CarError.{CarError}
use Rattle.files_car.specs.declared.error.CarError.TheVariants.{OutOfMemory}
use Rattle.files_car.specs.declared.each.ReadCarError.{ReadCarError}
use Rattle.files_car.specs.declared.each.ReadCarError.TheVariants as stop

-- the relation of a section, a sink before, the answer of `take`, and the sink after
abbrev pub SinkTakes : Type 0 → Type 0 → Type 1
SinkTakes S Stop = Section → S → Result (Unit {0}) Stop → S → Type 0

-- these sections came one after another, and the sink took each
abbrev pub TakesEach : {S Stop : Type 0} → SinkTakes S Stop → Option ℕ → Reading → S → List Section
    → Option ℕ → Reading → S → Type 0
TakesEach takes extent source old [] more following new =
    (more ≡ extent) × (following ≡ source) × (new ≡ old)
TakesEach {S} takes extent source old (s ∷ ss) more following new = (rest : Option ℕ) × (mid : Reading)
    × (it : S) × TakesSectionBytes extent source s rest mid × takes s old (Ok tt) it
    × TakesEach takes rest mid it ss more following new

-- bytes are left or missing, and no section begins; memory runs out only as `SectionLacks` says
abbrev pub NoneNext : {E : Type 0} → Option ℕ → Reading → CarError E → Reading → Type 0
NoneNext extent source e following = CarRefuses (RefusesNext extent) source e following
    × LacksMemoryIf {T = Unit {0}} (SectionLacks (of_file extent source)) (Err e)

-- why no section is taken after `count` others: none
-- begins next, or the sink refused the one that does
abbrev pub StopsEach : {S Stop E : Type 0} → SinkTakes S Stop → ℕ → Option ℕ → Reading → S
    → ReadCarError E Stop → Option ℕ → Reading → S → Type 0
StopsEach takes count extent source old (stop.Header e) more following new = ⊥
StopsEach takes count extent source old (stop.Section n e) more following new =
    (n ≡ count) × NoneNext extent source e following × (new ≡ old)
StopsEach takes count extent source old (stop.Block n name why) more following new = (s : Section)
    × (n ≡ count) × TakesSectionBytes extent source s more following × (name ≡ s.0) × takes s old (Err why) new

-- the next section is taken; or the file ends; or no section is taken
abbrev pub TakesNext : {S Stop E : Type 0} → SinkTakes S Stop → ℕ → Option ℕ → Reading → S
    → Result Bool (ReadCarError E Stop) → Option ℕ → Reading → S → Type 0
TakesNext takes count extent source old result more following new = MatchResult result
    (λ goes. MatchBool goes
    ((s : Section) × TakesSectionBytes extent source s more following × takes s old (Ok tt) new)
    (EndsThere extent source more following × (new ≡ old)))
    (λ e. StopsEach takes count extent source old e more following new)

-- the call gives up after 2 ^ 64 - 1 sections
abbrev pub AreTooMany : {E Stop : Type 0} → List Section → ReadCarError E Stop → Type 0
AreTooMany sections e = (e ≡ stop.Section (length sections) OutOfMemory) × (length sections ≡ 2 ^ 64 - 1)

-- All sections up to the end were taken, and counted; or some were taken,
-- and the error says why no more, and how many.
abbrev pub RunsEach : {S Stop E : Type 0} → SinkTakes S Stop → Option ℕ → Reading → S
    → Result ℕ (ReadCarError E Stop) → Option ℕ → Reading → S → Type 0
RunsEach {S} takes extent source old result more following new = MatchResult result
    (λ count. (ss : List Section) × (rest : Option ℕ) × (mid : Reading)
    × TakesEach takes extent source old ss rest mid new × (count ≡ length ss)
    × EndsThere rest mid more following)
    (λ e. (ss : List Section) × (rest : Option ℕ) × (mid : Reading) × (it : S)
    × TakesEach takes extent source old ss rest mid it
    × (StopsEach takes (length ss) rest mid it e more following new
    ⊎ ((following ≡ mid) × (new ≡ it) × AreTooMany ss e)))
