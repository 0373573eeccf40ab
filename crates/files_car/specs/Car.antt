-- What a CAR file is (CARv1 specification). A length is a varint, as in a CID.
use Rattle.std.specs.Prelude.{ℕ, ◌^◌, ◌<◌, ◌≡◌, pos, List, ◌++◌, length, map, codes, flat_map}
use Rattle.std.specs.List.{AllByRecursion}
use Rattle.ipld_tree.specs.Cid.{varint, CidParts, AreCidParts, cid_bytes}
use Rattle.ipld_tree.specs.Tree.{Tree, integer, list, mapping, link, no_entries, entry, items_of, IsTree}
use Rattle.ipld_tree.specs.Spelling.{spelling, IsSpellable}

-- the bytes after their length
abbrev pub counted : List ℕ → List ℕ
counted b = varint (length b) ++ b

-- the map of two entries: the links to the roots, given by their binary forms, and the version
-- 1
abbrev pub header_tree : List (List ℕ) → Tree
header_tree roots = mapping (entry (codes "roots") (list (items_of (map link roots)))
    (entry (codes "version") (integer (pos 1)) no_entries))

-- the encoded map of the header, after its length
abbrev pub header_bytes : List (List ℕ) → List ℕ
header_bytes roots = counted (spelling (header_tree roots))

-- the name of a block and its bytes
abbrev pub Section : Type 0
Section = CidParts × List ℕ

-- the name and then the block
abbrev pub section_body : Section → List ℕ
section_body s = cid_bytes s.0 ++ s.1

-- the name and the block, after the length of both
abbrev pub section_bytes : Section → List ℕ
section_bytes s = counted (section_body s)

-- the header, and then the sections, one after another
abbrev pub car_bytes : List (List ℕ) → List Section → List ℕ
car_bytes roots sections = header_bytes roots ++ flat_map section_bytes sections

-- the header is a tree, so its links are CIDs; it has a spelling, whose length is below 2 ^ 64
pub record IsHeader (roots : List (List ℕ)) : Type 0 where
  pub well_formed : IsTree (header_tree roots)
  pub spellable : IsSpellable (header_tree roots)
  pub fits : length (spelling (header_tree roots)) < 2 ^ 64

-- the name is a CID, and the length of the section is below 2 ^ 64
abbrev pub IsSection : Section → Type 0
IsSection s = AreCidParts s.0 × (length (section_body s) < 2 ^ 64)

-- the bytes are the file of version 1 with these roots and sections
pub record IsCar (b : List ℕ) (roots : List (List ℕ)) (sections : List Section) : Type 0 where
  pub header : IsHeader roots
  pub all : AllByRecursion IsSection sections
  pub is : b ≡ car_bytes roots sections
