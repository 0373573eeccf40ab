-- What `merge` writes: a CAR file of the sections of several files.
use Rattle.std.specs.Prelude.{◌≡◌, ◌⊎◌, ℕ, ◌+◌, List, [], ◌∷◌, ◌++◌, codes, decimal, length, Bool, true, false, if◌then◌else◌}
use Rattle.std.specs.BTreeSet.{insert_key}
use Rattle.std.specs.declared.convert.Infallible.{Infallible}
use Rattle.ipld_tree.specs.Cid.{CidParts, cid_cmp}
use Rattle.dagcbor_items.specs.Walks.{forms}
use Rattle.files_car.specs.Car.{Section, car_bytes}
use Rattle.files_car.specs.Versions.{IsFile}
use Rattle.files_car.specs.Sources.{RefusesStart, RefusesSection}
use Rattle.files_car.specs.Checks.{IsHeldInFile, IsFileFront, IsNoFile}
use Rattle.files_car.specs.declared.error.CarError.{CarError}
use Rattle.program_parts.specs.Lines.{refused_line}
use Rattle.program_inspect.specs.Names.{is_one_of}

-- ---- what is written

-- the CIDs that were not seen before, each once, in order of first occurrence
abbrev pub once_with : List CidParts → List CidParts → List CidParts
once_with seen [] = []
once_with seen (c ∷ cs) = if is_one_of c seen then once_with seen cs else c ∷ once_with (insert_key cid_cmp seen c) cs

-- the roots given, or else those of all files, each once
abbrev pub merged_roots : List CidParts → List CidParts → List CidParts
merged_roots [] roots = once_with [] roots
merged_roots (given ∷ more) roots = given ∷ more

-- What the merge leaves of sections that come after others: all but those with the CID of an
-- earlier section whose bytes match it.
abbrev pub IsMerged : List Section → List Section → List Section → Type 0
IsMerged before [] left = left ≡ []
IsMerged before (s ∷ ss) left = (IsHeldInFile s.0 before × IsMerged (before ++ s ∷ []) ss left)
    ⊎ ((¬ IsHeldInFile s.0 before) × ((more : List Section) × (left ≡ s ∷ more)
    × IsMerged (before ++ s ∷ []) ss more))

-- the CAR file of these roots and of what the merge leaves of these sections
abbrev pub IsMergedFile : List CidParts → List Section → List ℕ → Type 0
IsMergedFile roots sections out = (left : List Section) × IsMerged [] sections left
    × (out ≡ car_bytes (forms roots) left)

-- ---- files

-- the bytes are CAR files, and these are their roots and sections, one file after the other
abbrev pub AreFiles : List (List ℕ) → List CidParts → List Section → Type 0
AreFiles [] roots sections = (roots ≡ []) × (sections ≡ [])
AreFiles (b ∷ bs) roots sections = (first more : List CidParts) × (ss others : List Section)
    × IsFile b (forms first) ss × AreFiles bs more others × (roots ≡ first ++ more) × (sections ≡ ss ++ others)

-- the bytes begin with headers, and these are their roots
abbrev pub BeginFiles : List (List ℕ) → List CidParts → Type 0
BeginFiles [] roots = roots ≡ []
BeginFiles (b ∷ bs) roots = (first more : List CidParts) × ((n : ℕ) × (rest : List ℕ)
    × IsFileFront b (forms first) [] n rest) × BeginFiles bs more × (roots ≡ first ++ more)

-- All begin with headers, with these roots. Those before one are whole files. The sections are
-- theirs and the first ones of that one, in which `wanting` bytes are missing and `rest` is left.
pub record FilesFront (bs : List (List ℕ)) (roots : List CidParts) (sections : List Section) : Type 0 where
  pub before : List (List ℕ)
  pub at : List ℕ
  pub after : List (List ℕ)
  pub all : bs ≡ before ++ at ∷ after
  pub roots_before : List CidParts
  pub roots_at : List CidParts
  pub roots_after : List CidParts
  pub all_roots : roots ≡ roots_before ++ (roots_at ++ roots_after)
  pub sections_before : List Section
  pub sections_at : List Section
  pub all_sections : sections ≡ sections_before ++ sections_at
  pub wanting : ℕ
  pub rest : List ℕ
  pub are : AreFiles before roots_before sections_before
  pub front : IsFileFront at (forms roots_at) sections_at wanting rest
  pub begin : BeginFiles after roots_after

-- ---- error lines

-- a line about the file with this number, counted from 1
abbrev pub file_line : ℕ → List ℕ → List ℕ
file_line n told = codes "file " ++ (decimal n ++ (codes ": " ++ told))

-- one of the bytes does not begin a CAR file, all before it do, and a line says which and why
abbrev pub TellsNoneBegins : List (List ℕ) → List ℕ → Type 0
TellsNoneBegins bs told = (before : List (List ℕ)) × (b : List ℕ) × (after : List (List ℕ))
    × (roots : List CidParts) × (e : CarError Infallible) × (bs ≡ before ++ b ∷ after) × BeginFiles before roots
    × IsNoFile b × RefusesStart e b × (told ≡ file_line (length before + 1) (refused_line e))

-- the bytes after these sections are not a whole section, and a line says in which file and why
abbrev pub TellsBreak : List (List ℕ) → List CidParts → List Section → List ℕ → Type 0
TellsBreak bs roots sections told = (f : FilesFront bs roots sections) × (e : CarError Infallible)
    × IsNoFile f.at × RefusesSection f.wanting e f.rest
    × (told ≡ file_line (length f.before + 1) (refused_line e))

-- What `merge` writes: the CAR file of the sections of all files; or, if one is not a CAR file,
-- what comes before its fault, and a line that says which and why.
abbrev pub IsMergedOf : List CidParts → List (List ℕ) → Bool → List ℕ → List ℕ → Type 0
IsMergedOf given bs well out told = ((roots : List CidParts) × (sections : List Section)
    × AreFiles bs roots sections × IsMergedFile (merged_roots given roots) sections out
    × (well ≡ true) × (told ≡ []))
    ⊎ ((well ≡ false) × ((TellsNoneBegins bs told × (out ≡ []))
    ⊎ ((roots : List CidParts) × (sections : List Section) × TellsBreak bs roots sections told
    × IsMergedFile (merged_roots given roots) sections out)))

-- the output for all sections, for the first ones, or nothing
abbrev pub IsMergedFront : List CidParts → List (List ℕ) → List ℕ → Type 0
IsMergedFront given bs out = (out ≡ []) ⊎ ((roots : List CidParts) × (sections : List Section)
    × (AreFiles bs roots sections ⊎ FilesFront bs roots sections)
    × IsMergedFile (merged_roots given roots) sections out)
