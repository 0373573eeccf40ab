-- What is wrong with the index of a random-access file (CARv2 specification, "Index").
use Rattle.std.specs.Prelude.{◌≡◌, ℕ, ◌+◌, List, [], ◌∷◌, ◌++◌, length, drop, Result, Ok, Err, MatchResult, Vec}
use Rattle.std.specs.Bool.{⊤}
use Rattle.std.specs.declared.alloc.Global.{Global}
use Rattle.std.specs.declared.alloc.AllocError.{AllocError}
use Rattle.files_car.specs.Car.{Section, section_bytes, header_bytes}
use Rattle.files_car.specs.Versions.{IsFile}
use Rattle.files_car.specs.Each.{SinkTakes}
use Rattle.program_parts.specs.Holding.{TellsFault}
use Rattle.files_index.specs.Index.{EntryParts}
use Rattle.files_index.specs.Entries.{index_entries}
use Rattle.files_index.specs.Judging.{AreFindings}
use Rattle.files_index.specs.declared.entries.Format.{Format}
use Rattle.files_index.specs.declared.entries.IndexFault.{IndexFault}
use Rattle.files_index.specs.declared.judging.Placed.{Placed}
use Rattle.program_index.specs.Layouts.{HasIndex, index_field}
use Rattle.program_index.specs.declared.placing.Placing.{Placing}
use Rattle.program_index.specs.declared.judged.Listed.{Listed}
use Rattle.program_index.specs.declared.judged.Listed.TheVariants as lists
use Rattle.program_index.specs.declared.judged.Judged.{Judged}
use Rattle.program_index.specs.declared.judged.Judged.TheVariants as judged

-- ---- the sections

-- a section at this offset in the CARv1 payload
abbrev pub placed : ℕ → Section → Placed
placed place s = record { cid = s.0; offset = place }

-- consecutive sections, the first at this offset
abbrev pub places_of : ℕ → List Section → List Placed
places_of place [] = []
places_of place (s ∷ ss) = placed place s ∷ places_of (place + length (section_bytes s)) ss

-- the sections of the CARv1 payload
abbrev pub file_places : List (List ℕ) → List Section → List Placed
file_places roots sections = places_of (length (header_bytes roots)) sections

-- these are the sections of the file; or the bytes are not a CAR file, and a line says why
abbrev pub ArePlaced : List ℕ → Result (Vec Placed Global) (Vec ℕ Global) → Type 0
ArePlaced b result = MatchResult result
    (λ v. (roots : List (List ℕ)) × (sections : List Section) × IsFile b roots sections × (v.items ≡ file_places roots sections))
    (λ line. TellsFault (λ sections. ⊤) b line.items)

-- the next section is placed right after those before it
abbrev pub PlacesNext : SinkTakes Placing AllocError
PlacesNext s old (Ok u) new = (new.sections.items ≡ old.sections.items ++ placed old.place s ∷ [])
    × (new.place ≡ old.place + length (section_bytes s))
PlacesNext s old (Err e) new = ⊤

-- ---- the index

-- the bytes where the header says that the index is, read as an index
abbrev pub entries_at : List ℕ → Result (Format × List EntryParts) IndexFault
entries_at b = index_entries (drop (index_field b) b)

-- what an index holds: there is none, or it cannot be read, or these are its entries
abbrev pub HoldsEntries : List ℕ → Listed → Type 0
HoldsEntries b lists.NoIndex = ¬ HasIndex b
HoldsEntries b (lists.NoEntries e) = HasIndex b × (entries_at b ≡ Err e)
HoldsEntries b (lists.Index l) = HasIndex b × (entries_at b ≡ Ok (l.format, l.entries.items))

-- this is found by judging an index with this format and these entries against these sections
abbrev pub JudgesListing : Format → List EntryParts → List Placed → Judged → Type 0
JudgesListing f es ps judged.NoIndex = ⊥
JudgesListing f es ps (judged.NoFile line) = ⊥
JudgesListing f es ps (judged.NoEntries e) = ⊥
JudgesListing f es ps (judged.Found it) = (it.count ≡ length es) × AreFindings f es ps it.findings

-- this is found by judging what was read as an index
abbrev pub JudgesEntries : Result (Format × List EntryParts) IndexFault → List Placed → Judged → Type 0
JudgesEntries read ps judged.NoIndex = ⊥
JudgesEntries read ps (judged.NoFile line) = ⊥
JudgesEntries read ps (judged.NoEntries e) = read ≡ Err e
JudgesEntries read ps (judged.Found it) = (f : Format) × (es : List EntryParts) × (read ≡ Ok (f, es))
    × JudgesListing f es ps (judged.Found it)

-- What is found of an index: there is none; or the bytes are not a CAR file, and a line says why;
-- or the index cannot be read; or this is found of its entries by judging them against the
-- sections.
abbrev pub IsJudged : List ℕ → Judged → Type 0
IsJudged b judged.NoIndex = ¬ HasIndex b
IsJudged b (judged.NoFile line) = HasIndex b × TellsFault (λ sections. ⊤) b line.items
IsJudged b (judged.NoEntries e) = HasIndex b × (entries_at b ≡ Err e)
    × ((roots : List (List ℕ)) × (sections : List Section) × IsFile b roots sections)
IsJudged b (judged.Found it) = HasIndex b × ((roots : List (List ℕ)) × (sections : List Section)
    × (f : Format) × (es : List EntryParts) × IsFile b roots sections × (entries_at b ≡ Ok (f, es))
    × (it.count ≡ length es) × AreFindings f es (file_places roots sections) it.findings)
