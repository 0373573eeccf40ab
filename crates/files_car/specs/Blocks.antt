-- The blocks of a CAR file of version 1 in memory (CARv1 specification).
use Rattle.std.specs.Prelude.{◌≡◌, ◌⊎◌, ◌<◌, ℕ, length, List, [], ◌∷◌, ◌++◌, cond, None, Some, flat_map, ⊤}
use Rattle.std.specs.BTreeMap.{is_at}
use Rattle.std.specs.List.{AllByRecursion}
use Rattle.std.specs.declared.convert.Infallible.{Infallible}
use Rattle.ipld_tree.specs.Cid.{cid_cmp}
use Rattle.ipld_links.specs.Reaching.{Stored}
use Rattle.files_car.specs.Car.{Section, section_bytes, IsSection, IsCar}
use Rattle.files_car.specs.Splits.{SplitsHeader, HeaderRefused, SplitsSection, BeginsNoSection, SectionFault}
use Rattle.files_car.specs.declared.error.CarError.{CarError}
use Rattle.files_car.specs.declared.error.CarError.TheVariants.{OutOfMemory}

-- ---- stored blocks

-- the block of the section is stored under its name; under other names nothing changes
abbrev pub put_section : Stored → Section → Stored
put_section stored s name = cond (is_at (cid_cmp s.0) name) (Some s.1) (stored name)

-- the blocks of these sections are stored, one after another
abbrev pub put_sections : Stored → List Section → Stored
put_sections stored [] = stored
put_sections stored (s ∷ ss) = put_sections (put_section stored s) ss

-- nothing is stored under any name
abbrev pub nothing_stored : Stored
nothing_stored name = None

-- under each name the block of the last section with that name is stored
abbrev pub stored_of : List Section → Stored
stored_of ss = put_sections nothing_stored ss

-- the bytes are a file with these roots and some sections, whose blocks are stored
abbrev pub HoldsBlocks : List ℕ → List (List ℕ) → Stored → Type 0
HoldsBlocks b roots stored = (ss : List Section) × IsCar b roots ss × (stored ≡ stored_of ss)

-- ---- refusals

-- the bytes are these sections, and then the rest
abbrev pub SplitsSections : List ℕ → List Section → List ℕ → Type 0
SplitsSections b ss rest = AllByRecursion IsSection ss × (b ≡ flat_map section_bytes ss ++ rest)

-- the bytes are sections, whose blocks are stored
abbrev pub HoldsSections : List ℕ → Stored → Type 0
HoldsSections b stored = (ss : List Section) × SplitsSections b ss [] × (stored ≡ stored_of ss)

-- memory runs out for a section; or bytes are left, and no section begins, for this cause
abbrev pub StopsAt : List ℕ → CarError Infallible → Type 0
StopsAt b OutOfMemory = (s : Section) × (rest : List ℕ) × SplitsSection b s rest
StopsAt b e = BeginsNoSection b × SectionFault e b × (0 < length b)

-- after some sections, reading the bytes stops for this cause
abbrev pub NoSections : List ℕ → CarError Infallible → Type 0
NoSections b e = (ss : List Section) × (rest : List ℕ) × SplitsSections b ss rest × StopsAt rest e

-- the bytes are not a file of version 1
abbrev pub IsNoCar : List ℕ → Type 0
IsNoCar b = (roots : List (List ℕ)) (ss : List Section) → ¬ IsCar b roots ss

-- the bytes are not a file of version 1, unless the cause is that memory ran out
abbrev pub IsNoCarFor : List ℕ → CarError Infallible → Type 0
IsNoCarFor b OutOfMemory = ⊤
IsNoCarFor b e = IsNoCar b

-- why no blocks are returned: the header is refused, or what follows it
abbrev pub BlocksRefused : List ℕ → CarError Infallible → Type 0
BlocksRefused b e = IsNoCarFor b e × (HeaderRefused e b
    ⊎ ((roots : List (List ℕ)) × (rest : List ℕ) × SplitsHeader b roots rest × NoSections rest e))
