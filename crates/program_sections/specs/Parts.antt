-- How the sections of a file are split into parts.
use Rattle.std.specs.Prelude.{◌≡◌, ◌≢◌, ◌⊎◌, ◌≤◌, ℕ, ◌+◌, List, [], ◌∷◌, ◌++◌, codes, decimal, length, map, flat_map, nat_le, Bool, true, if◌then◌else◌}
use Rattle.std.specs.List.{AllByRecursion}
use Rattle.ipld_tree.specs.Cid.{CidParts}
use Rattle.dagcbor_items.specs.Walks.{forms}
use Rattle.files_car.specs.Car.{Section, car_bytes}
use Rattle.program_sections.specs.NewFiles.{Named}
use Rattle.program_sections.specs.declared.split_words.Split.{Split}

-- a section goes into the part with these sections: there are none yet, or it stays within the size
abbrev pub fits : ℕ → List (List ℕ) → List Section → Section → Bool
fits size roots [] s = true
fits size roots (first ∷ more) s = nat_le (length (car_bytes roots (first ∷ more ++ s ∷ []))) size

-- the parts, if one has these sections: as many more as fit are added to it, and the rest is split
abbrev pub parts_from : ℕ → List (List ℕ) → List Section → List Section → List (List Section)
parts_from size roots part [] = part ∷ []
parts_from size roots part (s ∷ ss) =
    if fits size roots part s then parts_from size roots (part ++ s ∷ []) ss
    else part ∷ parts_from size roots (s ∷ []) ss

-- the parts of these sections, in order. Each has as many as fit, or one that is too large alone.
abbrev pub parts : ℕ → List (List ℕ) → List Section → List (List Section)
parts size roots sections = parts_from size roots [] sections

-- ---- files

-- the file name of the part with this number, counted from 0
abbrev pub part_name : List ℕ → ℕ → List ℕ
part_name prefix number = prefix ++ (codes "-" ++ (decimal number ++ codes ".car"))

-- the files with these bytes, numbered from this number
abbrev pub part_files : List ℕ → ℕ → List (List ℕ) → List Named
part_files prefix number [] = []
part_files prefix number (b ∷ bs) = (part_name prefix number, b) ∷ part_files prefix (number + 1) bs

-- the roots given, or else those of the file
abbrev pub roots_of_parts : List CidParts → List CidParts → List CidParts
roots_of_parts [] roots = roots
roots_of_parts (given ∷ more) roots = given ∷ more

-- the files into which a file with these roots and sections is split, one for each part
abbrev pub split_files : Split → List CidParts → List Section → List Named
split_files asked roots sections =
    let all = forms (roots_of_parts asked.roots.items roots) in
    part_files asked.prefix.now 0 (map (car_bytes all) (parts asked.size all sections))

-- ---- laws

-- the sections of all parts, in order, are the sections of the file
abbrev pub PartsAreAll : Type 0
PartsAreAll = (size : ℕ) (roots : List (List ℕ)) (sections : List Section)
    → flat_map (λ part. part) (parts size roots sections) ≡ sections

-- each part is within the size, or has at most one section
abbrev pub IsWithin : ℕ → List (List ℕ) → List Section → Type 0
IsWithin size roots part = (length (car_bytes roots part) ≤ size) ⊎ (length part ≤ 1)

abbrev pub PartsAreWithin : Type 0
PartsAreWithin = (size : ℕ) (roots : List (List ℕ)) (sections : List Section)
    → AllByRecursion (IsWithin size roots) (parts size roots sections)

-- if there are sections, each part has one at least
abbrev pub PartsHaveSections : Type 0
PartsHaveSections = (size : ℕ) (roots : List (List ℕ)) (sections : List Section) → sections ≢ []
    → AllByRecursion (λ part. part ≢ []) (parts size roots sections)
