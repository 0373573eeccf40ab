-- What a command says of a CAR file: of its roots, of each section, and at its end.
use Rattle.std.specs.Prelude.{◌≡◌, ◌⊎◌, ℕ, List, [], ◌++◌, Bool, false, ◌&&◌, Option, Some, Result, MatchResult}
use Rattle.std.specs.Io.KnownBytes.{Appends}
use Rattle.std.specs.declared.convert.Infallible.{Infallible}
use Rattle.dagcbor_heads.specs.Reading.{Reading}
use Rattle.files_car.specs.Car.{Section}
use Rattle.files_car.specs.Versions.{IsFile}
use Rattle.files_car.specs.Sources.{RefusesStart, RefusesSection}
use Rattle.files_car.specs.Checks.{IsFileFront, IsNoFile}
use Rattle.files_car.specs.declared.error.CarError.{CarError}
use Rattle.program_parts.specs.Lines.{IsSaidOfEach, refused_line}
use Rattle.program_shared.specs.declared.fault.ToolError.{ToolError}
use Rattle.program_shared.specs.declared.fault.ToolError.TheVariants.{Output}

-- What a command says of a file, and whether all is well.
pub record Speech : Type 1 where
  -- of the roots, as binary CIDs
  pub of_roots : List (List ℕ) → List ℕ
  -- of a section
  pub of_section : Section → Bool → List ℕ → Type 0
  -- at the end of a file with these roots and sections
  pub of_end : List (List ℕ) → List Section → Bool → List ℕ → Type 0
  -- of bytes that are not a section, given the line that says why
  pub of_fault : List ℕ → List ℕ

-- What goes to the error output meanwhile, about each section alone.
abbrev pub beside : (Section → List ℕ → Type 0) → Speech
beside TellsOf = record {
  of_roots = λ roots. [];
  of_section = λ s well text. TellsOf s text;
  of_end = λ roots sections well text. text ≡ [];
  of_fault = λ line. [];
}

-- what is said of the roots and the first sections
abbrev pub IsSaidSoFar : Speech → List (List ℕ) → List Section → Bool → List ℕ → Type 0
IsSaidSoFar speech roots sections well out = (lines : List ℕ)
    × IsSaidOfEach speech.of_section sections well lines × (out ≡ speech.of_roots roots ++ lines)

-- what is said of a file: of the roots, of each section, and at its end
pub record IsSaidOfFile (speech : Speech) (b : List ℕ) (well : Bool) (out : List ℕ) : Type 0 where
  pub roots : List (List ℕ)
  pub sections : List Section
  pub file : IsFile b roots sections
  pub all_well : Bool
  pub said : List ℕ
  pub far : IsSaidSoFar speech roots sections all_well said
  pub end_well : Bool
  pub last : List ℕ
  pub ending : speech.of_end roots sections end_well last
  pub lines : out ≡ said ++ last
  pub wellness : well ≡ (end_well && all_well)

-- no file begins, and nothing was said; or the roots and sections up to some place were said, where
-- the bytes that follow are not a whole section
abbrev pub IsSaidBeforeFault : Speech → CarError Infallible → List ℕ → List ℕ → Type 0
IsSaidBeforeFault speech e b said = (RefusesStart e b × (said ≡ []))
    ⊎ ((roots : List (List ℕ)) × (sections : List Section) × (n : ℕ) × (rest : List ℕ)
    × (well : Bool) × IsFileFront b roots sections n rest
    × IsSaidSoFar speech roots sections well said × RefusesSection n e rest)

-- what is said of bytes that are not a file: of all before the fault, and of the fault
pub record IsSaidOfNone (speech : Speech) (b : List ℕ) (out : List ℕ) : Type 0 where
  pub error : CarError Infallible
  pub said : List ℕ
  pub none : IsNoFile b
  pub stands : IsSaidBeforeFault speech error b said
  pub lines : out ≡ said ++ speech.of_fault (refused_line error)

-- What is said of bytes, and whether all is well.
abbrev pub IsSaidOfBytes : Speech → List ℕ → Bool → List ℕ → Type 0
IsSaidOfBytes speech b well out = IsSaidOfFile speech b well out
    ⊎ ((well ≡ false) × IsSaidOfNone speech b out)

-- what is said of the roots and the first sections of a file, or nothing
abbrev pub AreFirstLines : Speech → List ℕ → List ℕ → Type 0
AreFirstLines speech b out = (out ≡ [])
    ⊎ ((roots : List (List ℕ)) × (sections : List Section) × (n : ℕ) × (rest : List ℕ)
    × (well : Bool) × IsFileFront b roots sections n rest
    × IsSaidSoFar speech roots sections well out)

-- the lines said of the first sections, or all lines
abbrev pub AreLines : Speech → List ℕ → List ℕ → Type 0
AreLines speech b out = AreFirstLines speech b out
    ⊎ ((well : Bool) × IsSaidOfBytes speech b well out)

-- The output of a run that broke off: the first lines, then a prefix of the next, which is empty
-- unless the device failed.
pub record BreaksSpeech (speech : Speech) (b : List ℕ) (old new : Option (List ℕ)) (e : ToolError) : Type 0 where
  pub whole : List ℕ
  pub front : List ℕ
  pub first : AreFirstLines speech b whole
  pub out : Appends old new (whole ++ front)
  pub next : (front ≡ [])
      ⊎ ((e ≡ Output) × ((back : List ℕ) × AreLines speech b (whole ++ (front ++ back))))

-- All is said of the bytes, or the run broke off.
abbrev pub SaysBytes : Speech → List ℕ → Option (List ℕ) → Result Bool ToolError
    → Option (List ℕ) → Type 0
SaysBytes speech b old result new = MatchResult result
    (λ well. (out : List ℕ) × IsSaidOfBytes speech b well out × Appends old new out)
    (λ e. BreaksSpeech speech b old new e)

-- if the bytes left in the source are known, all is said of them, or the run broke off
abbrev pub SaysFile : Speech → Reading → Option (List ℕ) → Result Bool ToolError
    → Option (List ℕ) → Type 0
SaysFile speech source old result new = (b : List ℕ) → source.left ≡ Some b
    → SaysBytes speech b old result new
