-- What `filter` writes: a CAR file of the sections that it keeps.
use Rattle.std.specs.Prelude.{◌≡◌, ◌⊎◌, ◌==◌, ℕ, List, [], length, Bool, false, flat_map}
use Rattle.std.specs.declared.convert.Infallible.{Infallible}
use Rattle.ipld_tree.specs.Cid.{CidParts}
use Rattle.dagcbor_items.specs.Walks.{forms}
use Rattle.files_car.specs.Car.{Section, car_bytes}
use Rattle.files_car.specs.Versions.{IsFile}
use Rattle.files_car.specs.Sources.{RefusesStart, RefusesSection}
use Rattle.files_car.specs.Checks.{IsFileFront, IsNoFile}
use Rattle.files_car.specs.declared.error.CarError.{CarError}
use Rattle.program_parts.specs.Lines.{missing_line, refused_line}
use Rattle.program_sections.specs.Kept.{kept_sections, roots_of, missing_of, found_in}
use Rattle.program_sections.specs.declared.filter.Filter.{Filter}

-- the CAR file written for these roots and sections
abbrev pub filtered : Filter → List CidParts → List Section → List ℕ
filtered f roots sections = car_bytes (forms (roots_of f.roots.items f.kept roots)) (kept_sections f.kept sections)

-- the wanted names that none of these sections has
abbrev pub missing_in : Filter → List Section → List CidParts
missing_in f sections = missing_of f.kept (found_in f.kept (kept_sections f.kept sections))

-- what is written if the bytes have a fault, before the header or after these sections
abbrev pub IsFilteredBefore : Filter → List ℕ → CarError Infallible → List ℕ → Type 0
IsFilteredBefore f b e out = (RefusesStart e b × (out ≡ []))
    ⊎ ((roots : List CidParts) × (sections : List Section) × (n : ℕ) × (rest : List ℕ)
    × IsFileFront b (forms roots) sections n rest × RefusesSection n e rest
    × (out ≡ filtered f roots sections))

-- What `filter` writes for bytes. If they are a CAR file: the file of the sections kept, and an
-- error line for each wanted name without a section; any such name is an error. If not: the
-- sections kept before the fault, and a line that says why.
abbrev pub IsFiltered : Filter → List ℕ → Bool → List ℕ → List ℕ → Type 0
IsFiltered f b well out told = ((roots : List CidParts) × (sections : List Section)
    × IsFile b (forms roots) sections × (out ≡ filtered f roots sections)
    × (told ≡ flat_map missing_line (missing_in f sections))
    × (well ≡ (length (missing_in f sections) == 0)))
    ⊎ ((well ≡ false) × ((e : CarError Infallible) × IsNoFile b × IsFilteredBefore f b e out
    × (told ≡ refused_line e)))

-- what is written for the first sections of a file, or nothing
abbrev pub IsFilteredFront : Filter → List ℕ → List ℕ → Type 0
IsFilteredFront f b out = (out ≡ [])
    ⊎ ((roots : List CidParts) × (sections : List Section) × (n : ℕ) × (rest : List ℕ)
    × IsFileFront b (forms roots) sections n rest × (out ≡ filtered f roots sections))
