-- What calls report of a whole CAR file, however it is cut into pieces.
use Rattle.std.specs.Prelude.{◌≡◌, ◌≢◌, ◌⊎◌, ℕ, ◌+◌, ◌^◌, ◌<◌, nat_eq, nat_lt, Bool, ◌&&◌, IsTrue, ℤ, pos, List, [], ◌∷◌, ◌++◌, length, map, drop, ⊤, if◌then◌else◌}
use Rattle.std.specs.declared.convert.Infallible.{Infallible}
use Rattle.files_car.specs.Car.{Section, section_bytes, header_bytes}
use Rattle.files_car.specs.Splits.{SplitsSection, SplitsHeader}
use Rattle.files_car.specs.Versions.{begin_of, HasSpan, HoldsCar, IsFile, MayBeVersion2, SpanRefused}
use Rattle.files_car.specs.Sources.{RefusesHeader, RefusesSection}
use Rattle.files_car.specs.declared.error.CarError.{CarError}
use Rattle.abi_calls.specs.Codes.{fault_code, header_code}
use Rattle.abi_calls.specs.Sections.{section_places}
use Rattle.abi_calls.specs.Walks.{is_last, is_unjudged, header_places, IsSectionCode, IsNextAnswer}
use Rattle.abi_calls.specs.declared.walk.CarWalk.{CarWalk}

-- ---- what calls tell

-- the beginning of a walk
abbrev pub fresh : CarWalk
fresh = record { place = 0; end = 0; version = 0; step = 0 }

-- these places, counted from the front of the file
abbrev pub offsets : ℕ → List ℕ → List ℕ
offsets from places = map (λ n. from + n) places

-- what one call reports: a number, and offsets in the file
abbrev pub Told : Type 0
Told = ℤ × List ℕ

-- what a call reports: of a header or a section, which the walk has then passed, where its parts
-- are; of the end or a fault, where the walk is
abbrev pub told_by : CarWalk → CarWalk → List ℕ → ℤ → Told
told_by w after places code = (
  code,
  if nat_lt w.place after.place && nat_eq after.step 1
      then offsets w.place places else after.place ∷ [],
)

-- the bytes at hand, and the `how` of the call
abbrev pub Call : Type 0
Call = List ℕ × ℕ

-- The bytes are those of the file from where the walk is on, any number of them; and all of them,
-- if the caller says that none follow.
abbrev pub IsOfFile : List ℕ → CarWalk → Call → Type 0
IsOfFile file w call = (more : List ℕ) × (drop w.place file ≡ call.0 ++ more)
    × (IsTrue (is_last call.1) → more ≡ [])

-- Consecutive calls report this: one report for each call but those that need more bytes.
abbrev pub Tell : Bool → List ℕ → CarWalk → List Call → List Told → Type 0
Tell unjudged file w [] told = told ≡ []
Tell unjudged file w (call ∷ calls) told =
    (after : CarWalk) × (old : List ℕ) × (new : List ℕ) × (code : ℤ) × IsOfFile file w call
    × (is_unjudged call.1 ≡ unjudged) × IsNextAnswer call.1 w call.0 old after new code
    × (((code ≡ pos 10) × Tell unjudged file after calls told)
    ⊎ ((code ≢ pos 10) × (more : List Told) × (told ≡ told_by w after new code ∷ more)
    × Tell unjudged file after calls more))

-- ---- what is in the file

-- These bytes of a file of version 1 are at this offset, and `wanting` bytes are missing after
-- them. The reports are: the section at the front, and then those of the bytes after it; or, again
-- and again, the end, or the fault for which there is no section, at that offset.
abbrev pub AreToldOfSections : Bool → ℕ → ℕ → List ℕ → List Told → Type 0
AreToldOfSections unjudged wanting place b [] = ⊤
AreToldOfSections unjudged wanting place b (t ∷ told) =
    ((s : Section) × (rest : List ℕ) × SplitsSection b s rest × IsSectionCode unjudged s t.0
    × (t.1 ≡ offsets place (section_places s))
    × AreToldOfSections unjudged wanting (place + length (section_bytes s)) rest told)
    ⊎ (((b ≡ []) × (wanting ≡ 0) × (t ≡ (pos 12, place ∷ []))
    × AreToldOfSections unjudged wanting place b told)
    ⊎ ((e : CarError Infallible) × RefusesSection wanting e b × (t ≡ (fault_code e, place ∷ []))
    × AreToldOfSections unjudged wanting place b told))

-- where the file of version 1 begins in the file; it holds of no bytes that might be cut out of
-- version 2
abbrev pub BeginsAt : List ℕ → ℕ → Type 0
BeginsAt file begin = ((¬ MayBeVersion2 file) × (begin ≡ 0)) ⊎ (HasSpan file × (begin ≡ begin_of file))

-- The reports of a file: the header of the file of version 1 in it, and then those of the sections;
-- or, again and again, the fault for which there is no header, or no place for it.
abbrev pub AreToldOf : Bool → List ℕ → List Told → Type 0
AreToldOf unjudged file [] = ⊤
AreToldOf unjudged file (t ∷ told) =
    ((e : CarError Infallible) × SpanRefused e file × (t ≡ (fault_code e, 0 ∷ []))
    × AreToldOf unjudged file told)
    ⊎ ((begin : ℕ) × (car : List ℕ) × (wanting : ℕ) × BeginsAt file begin × HoldsCar file car wanting
    × (((roots : List (List ℕ)) × (rest : List ℕ) × SplitsHeader car roots rest
    × (t ≡ (pos 11, offsets begin (header_places 0 roots)))
    × AreToldOfSections unjudged wanting (begin + length (header_bytes roots)) rest told)
    ⊎ ((e : CarError Infallible) × RefusesHeader e car × (t ≡ (header_code e, begin ∷ []))
    × AreToldOf unjudged file told)))

-- ---- laws

-- However a file is cut into pieces, and however often a call is made, the calls report what is in
-- it.
abbrev pub WalksAreExact : Type 0
WalksAreExact = (unjudged : Bool) (file : List ℕ) (calls : List Call) (told : List Told) → length file < 2 ^ 64
    → Tell unjudged file fresh calls told → AreToldOf unjudged file told

-- the two lists are equal as far as both go
abbrev pub AreAlike : List Told → List Told → Type 0
AreAlike [] others = ⊤
AreAlike (t ∷ told) [] = ⊤
AreAlike (t ∷ told) (other ∷ others) = (t ≡ other) × AreAlike told others

-- What is reported of a file is determined by it, as far as it goes.
abbrev pub ToldAreUnique : Type 0
ToldAreUnique = (unjudged : Bool) (file : List ℕ) (told others : List Told) → AreToldOf unjudged file told
    → AreToldOf unjudged file others → AreAlike told others

-- So two runs of calls over one file report the same, wherever each cuts it.
abbrev pub CutsAgree : Type 0
CutsAgree = (unjudged : Bool) (file : List ℕ) (calls more : List Call) (told others : List Told) → length file < 2 ^ 64
    → Tell unjudged file fresh calls told → Tell unjudged file fresh more others → AreAlike told others

-- The reports of these sections, of which the first is at this offset, and then, again and again,
-- of the end.
abbrev pub AreSections : Bool → ℕ → List Section → List Told → Type 0
AreSections unjudged place sections [] = ⊤
AreSections unjudged place [] (t ∷ told) = (t ≡ (pos 12, place ∷ [])) × AreSections unjudged place [] told
AreSections unjudged place (s ∷ sections) (t ∷ told) = IsSectionCode unjudged s t.0
    × (t.1 ≡ offsets place (section_places s))
    × AreSections unjudged (place + length (section_bytes s)) sections told

-- The reports of the header of these roots, of these sections, and then of the end.
abbrev pub AreOfFile : Bool → List ℕ → List (List ℕ) → List Section → List Told → Type 0
AreOfFile unjudged file roots sections [] = ⊤
AreOfFile unjudged file roots sections (t ∷ told) = (begin : ℕ) × BeginsAt file begin
    × (t ≡ (pos 11, offsets begin (header_places 0 roots)))
    × AreSections unjudged (begin + length (header_bytes roots)) sections told

-- the end is reported
abbrev pub TellsEnd : List Told → Type 0
TellsEnd [] = ⊥
TellsEnd (t ∷ told) = (t.0 ≡ pos 12) ⊎ TellsEnd told

-- For a CAR file its roots and sections are reported, and no fault; and if the end is reported, the
-- bytes are a CAR file.
abbrev pub FilesAreTold : Type 0
FilesAreTold = (unjudged : Bool) (file : List ℕ) (told : List Told) → AreToldOf unjudged file told
    → ((roots : List (List ℕ)) (sections : List Section) → IsFile file roots sections
    → AreOfFile unjudged file roots sections told)
    × (TellsEnd told → (roots : List (List ℕ)) × (sections : List Section) × IsFile file roots sections)

-- A call that needs no more bytes answers the same if more are at hand, from wherever the walk is:
-- the same number, places and walk. If the caller said that none follow, none may.
abbrev pub MoreBytesAgree : Type 0
MoreBytesAgree = (how other : ℕ) (w after later : CarWalk) (b more old new places : List ℕ) (code number : ℤ)
    → is_unjudged other ≡ is_unjudged how
    → (IsTrue (is_last how) → (more ≡ []) × IsTrue (is_last other)) → code ≢ pos 10
    → IsNextAnswer how w b old after new code → IsNextAnswer other w (b ++ more) old later places number
    → (number ≡ code) × (later ≡ after) × (places ≡ new)

-- If all bytes are at hand, no more are needed.
abbrev pub LastNeedsNoMore : Type 0
LastNeedsNoMore = (how : ℕ) (w after : CarWalk) (b old new : List ℕ) (code : ℤ) → IsTrue (is_last how)
    → IsNextAnswer how w b old after new code → code ≢ pos 10
