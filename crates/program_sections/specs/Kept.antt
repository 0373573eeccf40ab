-- Which sections of a file are kept.
use Rattle.std.specs.Prelude.{◌==◌, List, [], ◌∷◌, Bool, not, map}
use Rattle.std.specs.List.{filter}
use Rattle.std.specs.BTreeSet.{insert_key}
use Rattle.ipld_tree.specs.Cid.{CidParts, cid_cmp}
use Rattle.files_car.specs.Car.{Section}
use Rattle.program_inspect.specs.Names.{distinct, is_one_of}
use Rattle.program_sections.specs.declared.kept.Kept.{Kept}
use Rattle.program_sections.specs.declared.kept.Kept.TheVariants.{Codec, Named}

-- a section with this CID is kept: its codec is the one wanted, or the CID is one of those listed
abbrev pub keeps : Kept → CidParts → Bool
keeps (Codec codec) c = c.codec == codec
keeps (Named names) c = is_one_of c names.keys

-- the roots and the sections that are kept, in their order
abbrev pub kept_roots : Kept → List CidParts → List CidParts
kept_roots kept roots = filter (keeps kept) roots

abbrev pub kept_sections : Kept → List Section → List Section
kept_sections kept sections = filter (λ s. keeps kept s.0) sections

-- the roots of the new file: those given, or else the file's roots that are kept
abbrev pub roots_of : List CidParts → Kept → List CidParts → List CidParts
roots_of [] kept roots = kept_roots kept roots
roots_of (given ∷ more) kept roots = given ∷ more

-- the names that are not among the others, in their order
abbrev pub others : List CidParts → List CidParts → List CidParts
others names found = filter (λ c. not (is_one_of c found)) names

-- the wanted names that no section has, if these were found
abbrev pub missing_of : Kept → List CidParts → List CidParts
missing_of (Codec codec) found = []
missing_of (Named names) found = others names.keys found

-- the names found in kept sections
abbrev pub found_in : Kept → List Section → List CidParts
found_in (Codec codec) sections = []
found_in (Named names) sections = distinct (map (λ s. s.0) sections)

-- the names found, with that of one more kept section
abbrev pub note : Kept → List CidParts → CidParts → List CidParts
note (Codec codec) found c = found
note (Named names) found c = insert_key cid_cmp found c
