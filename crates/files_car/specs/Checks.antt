-- The check of a whole CAR file.
use Rattle.std.specs.Prelude.{◌≡◌, ◌≢◌, ◌↔◌, ◌⊎◌, ℕ, ◌+◌, List, [], ◌∷◌, ◌++◌, drop, Vec}
use Rattle.std.specs.List.{AllByRecursion}
use Rattle.std.specs.List.Sorted.{IsStrictlySortedBy}
use Rattle.std.specs.declared.alloc.Global.{Global}
use Rattle.ipld_tree.specs.Cid.{CidParts, cid_bytes, cid_cmp}
use Rattle.dagcbor_items.specs.Walks.{forms}
use Rattle.files_car.specs.Car.{Section, IsHeader, IsSection, car_bytes}
use Rattle.files_car.specs.Versions.{IsVersion2, begin_of, length_of, HasSpan, HoldsCar, IsFile}
use Rattle.ipld_links.specs.Verdicts.{IsVerified}
use Rattle.ipld_links.specs.Blocks.{HasLinks}
use Rattle.ipld_links.specs.Sets.{Among, members, AreCids, RemovesCid}
use Rattle.ipld_links.specs.Held.{IsHeldName, AddsName, AreNames}
use Rattle.ipld_links.specs.Within.{IsInlineForm, IsLinkWithin, AddsReached}
use Rattle.files_car.specs.declared.check.CarCheck.{CarCheck}

-- ---- missing blocks

-- the name is that of a verified block in the file
abbrev pub IsHeldInFile : CidParts → List Section → Type 0
IsHeldInFile c sections = (b : List ℕ) × Among (c, b) sections × IsVerified (c, b)

-- the binary form is that of a link in a verified block of DAG-CBOR or DAG-PB
abbrev pub IsLinkIn : List ℕ → List Section → Type 0
IsLinkIn form sections = (s : Section) × (links : List (List ℕ)) × Among s sections × IsVerified s
    × HasLinks s.0.codec s.1 links × Among form links

-- the binary form is that of a root, or of a link in a verified block
abbrev pub IsPlainlyLinked : List ℕ → List (List ℕ) → List Section → Type 0
IsPlainlyLinked form roots sections = Among form roots ⊎ IsLinkIn form sections

-- the binary form is that of such a root or link, or of a link within one
abbrev pub IsLinkedFrom : List ℕ → List (List ℕ) → List Section → Type 0
IsLinkedFrom form roots sections = (link : List ℕ) × (n : ℕ) × IsPlainlyLinked link roots sections
    × IsLinkWithin n link form

-- the binary form is not that of a verified block's name, nor of a name that holds its block itself
abbrev pub NamesNoneInFile : List ℕ → List Section → Type 0
NamesNoneInFile form sections = ¬ IsInlineForm form
    × ((s : Section) → Among s sections → IsVerified s → cid_bytes s.0 ≢ form)

-- The list has the roots and links that name no verified block, each once, in the order of CIDs.
abbrev pub ListsMissingInFile : List (List ℕ) → List Section → Vec CidParts Global → Type 0
ListsMissingInFile roots sections v = IsStrictlySortedBy cid_cmp v.items
    × ((form : List ℕ) → Among form (forms v.items)
    ↔ (IsLinkedFrom form roots sections × NamesNoneInFile form sections))

-- ---- section by section

-- the state of a check after these sections of a file with these roots
pub record IsAfter (check : CarCheck) (roots : List (List ℕ)) (sections : List Section) : Type 0 where
  pub held : (c : CidParts) → IsHeldName c check.held ↔ IsHeldInFile c sections
  pub names : AreNames check.held
  pub missing : (form : List ℕ) → Among form (forms (members check.missing))
      ↔ (IsLinkedFrom form roots sections × NamesNoneInFile form sections)
  pub cids : AreCids check.missing

-- the name of a verified block is now held, and no longer missing
abbrev pub HoldsName : CidParts → CarCheck → CarCheck → Type 0
HoldsName c old new = AddsName c old.held new.held × RemovesCid c old.missing new.missing

-- the missing names are the old ones, and those reached from the links of the block and not
-- held
abbrev pub FollowsLinks : ℕ → List ℕ → CarCheck → CarCheck → Type 0
FollowsLinks codec b old new = (new.held ≡ old.held) × ((links : List (List ℕ)) × HasLinks codec b links
    × AddsReached links old.held old.missing new.missing)

-- the state after one more section, whichever came before
abbrev pub TakesSection : Section → CarCheck → CarCheck → Type 0
TakesSection s old new = (roots : List (List ℕ)) (sections : List Section)
    → IsAfter old roots sections → IsAfter new roots (sections ++ s ∷ [])

-- ---- the whole

-- the bytes are the file of version 1 with these roots and sections, and then the rest
pub record IsCarFront (b : List ℕ) (roots : List (List ℕ)) (sections : List Section) (rest : List ℕ) : Type 0 where
  pub header : IsHeader roots
  pub all : AllByRecursion IsSection sections
  pub is : b ≡ car_bytes roots sections ++ rest

-- a file of either version, of which n bytes are missing, has
-- the header, these sections, and then the rest
abbrev pub IsFileFront : List ℕ → List (List ℕ) → List Section → ℕ → List ℕ → Type 0
IsFileFront b roots sections n rest = (car : List ℕ) × HoldsCar b car n
    × IsCarFront car roots sections rest

-- the bytes are not a CAR file
abbrev pub IsNoFile : List ℕ → Type 0
IsNoFile b = (roots : List (List ℕ)) (sections : List Section) → ¬ IsFile b roots sections

-- the rest are the bytes after the file: none in version 1; in version 2 all after its span
abbrev pub StandAfter : List ℕ → List ℕ → Type 0
StandAfter b rest = ((¬ IsVersion2 b) × (rest ≡ []))
    ⊎ (HasSpan b × (rest ≡ drop (begin_of b + length_of b) b))
