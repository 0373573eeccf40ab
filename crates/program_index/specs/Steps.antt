-- The steps that make an index.
use Rattle.std.specs.Prelude.{◌≡◌, ℕ, ◌+◌, List, [], ◌∷◌, ◌++◌, length, ⊤, Result, Ok, Err, MatchResult, Vec, Option, Bool, true, IfOk}
use Rattle.std.specs.declared.alloc.Global.{Global}
use Rattle.std.specs.declared.alloc.AllocError.{AllocError}
use Rattle.files_car.specs.Car.{Section, section_bytes, car_bytes}
use Rattle.files_car.specs.Versions.{IsFile}
use Rattle.files_car.specs.Each.{SinkTakes}
use Rattle.program_parts.specs.Holding.{TellsFault}
use Rattle.files_index.specs.Index.{EntryParts, index_bytes}
use Rattle.program_shared.specs.Writing.{WritesFront}
use Rattle.program_shared.specs.declared.fault.ToolError.{ToolError}
use Rattle.program_index.specs.Indexed.{entry_of, version_2_header, indexed_bytes, AreEntries}
use Rattle.program_index.specs.Layouts.{BeginsAt}
use Rattle.program_index.specs.declared.gather.Gathering.{Gathering}
use Rattle.program_index.specs.declared.gather.Gathered.{Gathered}
use Rattle.program_index.specs.declared.index.Parts.{Parts}

-- the entry of the next section comes after those of the sections before it
abbrev pub GathersNext : SinkTakes Gathering AllocError
GathersNext s old (Ok u) new = (new.entries.items ≡ old.entries.items ++ entry_of old.place s ∷ [])
    × (new.place ≡ old.place + length (section_bytes s))
GathersNext s old (Err e) new = ⊤

-- what is gathered of a whole file: the entries of its sections, and the length of its CARv1
-- payload
pub record IsGathered (b : List ℕ) (found : Gathered) : Type 0 where
  pub roots : List (List ℕ)
  pub sections : List Section
  pub file : IsFile b roots sections
  pub entries : AreEntries roots sections found.entries.items
  pub length : found.length ≡ length (car_bytes roots sections)

-- what was gathered of a file; or the bytes are not a CAR file, and a line says why
abbrev pub Gathers : List ℕ → Result Gathered (Vec ℕ Global) → Type 0
Gathers b result = MatchResult result (IsGathered b)
    (λ line. TellsFault (λ sections. ⊤) b line.items)

-- the bytes before and after the CARv1 payload, given what was gathered, and where it begins
pub record ArePartsOf (b : List ℕ) (found : Gathered) (parts : Parts) : Type 0 where
  pub before : parts.before.items ≡ version_2_header found.length
  pub begin : BeginsAt b parts.begin
  pub following : parts.following.items ≡ index_bytes found.entries.items

-- the CAR file of version 2 was written, given what was gathered; or a prefix of it was
abbrev pub SendsFile : Gathered → List ℕ → Option (List ℕ) → Result Bool ToolError → Option (List ℕ)
    → Type 0
SendsFile found b old result new = IsGathered b found → (roots : List (List ℕ)) × (sections : List Section)
    × (entries : List EntryParts) × IsFile b roots sections × AreEntries roots sections entries
    × IfOk result (λ well. well ≡ true)
    × WritesFront old new result (indexed_bytes (car_bytes roots sections) (index_bytes entries))
