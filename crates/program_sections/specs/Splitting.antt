-- What `split` writes and reports.
use Rattle.std.specs.Prelude.{◌≡◌, ◌≢◌, ◌⊎◌, ℕ, List, [], ◌∷◌, ◌++◌, codes, Bool, false, Option, Some, Result, MatchResult}
use Rattle.std.specs.Io.KnownBytes.{Appends}
use Rattle.std.specs.declared.convert.Infallible.{Infallible}
use Rattle.ipld_tree.specs.Cid.{CidParts}
use Rattle.dagcbor_items.specs.Walks.{forms}
use Rattle.files_car.specs.Car.{Section}
use Rattle.files_car.specs.Versions.{IsFile}
use Rattle.files_car.specs.Sources.{RefusesStart, RefusesSection}
use Rattle.files_car.specs.Checks.{IsFileFront, IsNoFile}
use Rattle.files_car.specs.declared.error.CarError.{CarError}
use Rattle.program_parts.specs.Lines.{line, refused_line}
use Rattle.program_sections.specs.NewFiles.{Named, AddsFiles}
use Rattle.program_sections.specs.Parts.{split_files}
use Rattle.program_sections.specs.declared.split_words.Split.{Split}
use Rattle.program_sections.specs.declared.split.SplitEnd.{SplitEnd}
use Rattle.program_sections.specs.declared.split.SplitEnd.TheVariants as ends
use Rattle.program_shared.specs.declared.fault.ToolError.{ToolError}
use Rattle.program_shared.specs.declared.fault.ToolError.TheVariants.{Output}

-- the error line for a file that exists already
abbrev pub there_line : List ℕ → List ℕ
there_line name = line (codes "dagcar: there is a file " ++ name)

-- the bytes begin with a header with these roots and with these sections, all or the first ones
abbrev pub HasSections : List ℕ → List CidParts → List Section → Type 0
HasSections b roots sections = (n : ℕ) × (rest : List ℕ) × IsFileFront b (forms roots) sections n rest

-- the bytes are not a CAR file for this cause, and these files are the parts before the fault
abbrev pub SplitsBefore : Split → List ℕ → CarError Infallible → List Named → Type 0
SplitsBefore asked b e files = IsNoFile b × ((RefusesStart e b × (files ≡ []))
    ⊎ ((roots : List CidParts) × (sections : List Section) × (n : ℕ) × (rest : List ℕ)
    × IsFileFront b (forms roots) sections n rest × RefusesSection n e rest
    × (files ≡ split_files asked roots sections)))

-- The files that `split` makes of bytes, and the error output. If they are a CAR file: its parts.
-- If not: the parts before the fault, and a line that says why. If the name of the next part is
-- taken: the parts before that, and a line with the name. `has` says which names are taken.
abbrev pub IsSplitOf : Split → List ℕ → (List ℕ → Option Bool) → SplitEnd → List Named → List ℕ → Type 0
IsSplitOf asked b has ends.Whole files told = (roots : List CidParts) × (sections : List Section)
    × IsFile b (forms roots) sections × (files ≡ split_files asked roots sections) × (told ≡ [])
IsSplitOf asked b has ends.Fault files told = (e : CarError Infallible) × SplitsBefore asked b e files
    × (told ≡ refused_line e)
IsSplitOf asked b has ends.Exists files told = (roots : List CidParts) × (sections : List Section)
    × (name bytes : List ℕ) × HasSections b roots sections
    × (split_files asked roots sections ≡ files ++ (name, bytes) ∷ []) × (has name ≢ Some false)
    × (told ≡ there_line name)

-- the first parts of the first sections
abbrev pub IsSplitFront : Split → List ℕ → List Named → Type 0
IsSplitFront asked b files = (files ≡ []) ⊎ ((roots : List CidParts) × (sections : List Section)
    × (others : List Named) × HasSections b roots sections
    × (split_files asked roots sections ≡ files ++ others))

-- the files finished before a split and after it, and the names taken after it, if these are known
pub record Making : Type 0 where
  pub old : Option (List Named)
  pub new : Option (List Named)
  pub has : List ℕ → Option Bool

abbrev pub making : Option (List Named) → Option (List Named) → (List ℕ → Option Bool) → Making
making old new has = record { old = old; new = new; has = has }

-- The files were finished, and the error lines written; or the run broke off, the first parts were
-- finished, and no error line was written, or a prefix if the device failed.
abbrev pub Splits : Split → List ℕ → Making → Option (List ℕ) → Result SplitEnd ToolError → Option (List ℕ) → Type 0
Splits asked b m heard result after = MatchResult result
    (λ end. (files : List Named) × (told : List ℕ) × IsSplitOf asked b m.has end files told
    × AddsFiles m.old m.new files × Appends heard after told)
    (λ e. ((files : List Named) × IsSplitFront asked b files × AddsFiles m.old m.new files × Appends heard after [])
    ⊎ ((end : SplitEnd) × (files : List Named) × (told others : List ℕ)
    × IsSplitOf asked b m.has end files (told ++ others) × (e ≡ Output) × AddsFiles m.old m.new files
    × Appends heard after told))
