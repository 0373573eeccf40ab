-- Reading a CAR file from a reader, and why it is refused.
use Rattle.std.specs.Prelude.{◌≡◌, ◌≢◌, ◌⊎◌, ℕ, ◌+◌, ◌*◌, ◌<◌, List, [], ◌++◌, length, Bool, true, false, ⊤, Option, None, Some, Result, Ok, Err, is_err, Vec, MatchBool, MatchOption, MatchResult}
use Rattle.std.specs.declared.alloc.Global.{Global}
use Rattle.dagcbor_heads.specs.Reading.{Reading}
use Rattle.dagcbor_heads.specs.Fronts.{Takes}
use Rattle.dagcbor_heads.specs.Inputs.{input_reading}
use Rattle.dagcbor_heads.specs.Looking.{LooksAtMost, LooksAtLeft, LooksOnce}
use Rattle.dagcbor_core.specs.declared.error.DecodeError.{DecodeError}
use Rattle.dagcbor_core.specs.declared.error.DecodeError.TheVariants as unread
use Rattle.ipld_tree.specs.Cid.{CidParts}
use Rattle.dagcbor_items.specs.Walks.{forms}
use Rattle.files_car.specs.Car.{Section, section_bytes, IsSection, header_bytes, IsHeader}
use Rattle.files_car.specs.Splits.{BeginsNoSection, SectionFault, BeginsNoHeader, HeaderFault, CountsBlock}
use Rattle.files_car.specs.Versions.{begin_of, length_of, HasSpan, HoldsCar, SpanFault}
use Rattle.files_car.specs.Extents.{bytes_within, wanting, of_file, Spends, TakesOff, EndsThere}
use Rattle.files_car.specs.declared.error.CarError.{CarError}
use Rattle.files_car.specs.declared.error.CarError.TheVariants.{Read, Truncated, OutOfMemory}
use Rattle.files_car.specs.declared.reader.CarReader.{CarReader}

-- ---- refusals

-- A refusal is a fault of the source, which was counted; or out of
-- memory; or its cause holds of the bytes left.
abbrev pub CarRefuses : {E : Type 0} → (CarError E → List ℕ → Type 0) → Reading → CarError E → Reading
    → Type 0
CarRefuses stands old (Read e) new = old.faults < new.faults
CarRefuses stands old OutOfMemory new = new.faults ≡ old.faults
CarRefuses stands old e new = (new.faults ≡ old.faults)
    × ((b : List ℕ) → old.left ≡ Some b → stands e b)

-- memory runs out only if `lacks` holds
abbrev pub LacksMemoryIf : {T E : Type 0} → Type 0 → Result T (CarError E) → Type 0
LacksMemoryIf lacks (Err OutOfMemory) = lacks
LacksMemoryIf lacks (Err e) = ⊤
LacksMemoryIf lacks (Ok v) = ⊤

-- when memory may run out for the header of a file of either
-- version: over a slice only after a whole block
abbrev pub FileLacks : Reading → Type 0
FileLacks old = old.lends ≡ true → (b : List ℕ) → old.left ≡ Some b
    → (car : List ℕ) × (n : ℕ) × HoldsCar b car n × CountsBlock car

-- when memory may run out for a section: not over a slice, nor at the end
abbrev pub SectionLacks : Reading → Type 0
SectionLacks old = (old.lends ≡ false) × (old.left ≢ Some [])

-- fewer than n bytes are left
abbrev pub IsShort : {E : Type 0} → ℕ → CarError E → List ℕ → Type 0
IsShort n e b = (e ≡ Truncated) × (length b < n)

-- the refusal of a call that takes bytes, as a `CarError`
abbrev pub car_error : {E : Type 0} → DecodeError E → CarError E
car_error (unread.Read e) = Read e
car_error unread.OutOfMemory = OutOfMemory
car_error _ = Truncated

-- the bytes do not begin with a header, for this cause
abbrev pub RefusesHeader : {E : Type 0} → CarError E → List ℕ → Type 0
RefusesHeader e b = BeginsNoHeader b × HeaderFault e b

-- no file begins, for this cause: version 2 does not say where the file of version 1 is, or that
-- file does not begin with a header
abbrev pub RefusesStart : {E : Type 0} → CarError E → List ℕ → Type 0
RefusesStart e b = SpanFault e b
    ⊎ ((car : List ℕ) × (n : ℕ) × HoldsCar b car n × RefusesHeader e car)

-- some bytes are left, or n are missing, and no section begins, for this cause
abbrev pub RefusesSection : {E : Type 0} → ℕ → CarError E → List ℕ → Type 0
RefusesSection n e b = (0 < length b + n) × BeginsNoSection b × SectionFault e b

-- some bytes of the file are left or missing, and they do not begin with a section, for this
-- cause
abbrev pub RefusesNext : {E : Type 0} → Option ℕ → CarError E → List ℕ → Type 0
RefusesNext extent e b = RefusesSection (wanting extent b) e (bytes_within extent b)

-- ---- taking a file

-- the bytes begin a file with these roots, and this much of it is left: they are the header; or
-- those of version 2, any bytes up to where the file of version 1 begins, and the header of that
abbrev pub IsStartOfFile : List ℕ → List (List ℕ) → Option ℕ → Type 0
IsStartOfFile front roots extent = ((front ≡ header_bytes roots) × (extent ≡ None))
    ⊎ (HasSpan front × ((before : List ℕ) × (length before ≡ begin_of front)
    × (front ≡ before ++ header_bytes roots)
    × Spends (Some (length_of front)) (length (header_bytes roots)) extent))

-- the start of a file with these roots was taken, and this much of the file is left; each byte was
-- looked at at most twice, and none after them
pub record TakesStart (old : Reading) (roots : List (List ℕ)) (extent : Option ℕ) (new : Reading) : Type 0 where
  pub front : List ℕ
  pub header : IsHeader roots
  pub start : IsStartOfFile front roots extent
  pub takes : Takes old front new
  pub looked : LooksAtMost (2 * length front) old new
  pub none_shown : new.shown ≡ []

-- The start of a file was taken, or no file begins.
abbrev pub PullsStart : {E : Type 0} → Reading
    → Result (Vec CidParts Global × Option ℕ) (CarError E) → Reading → Type 0
PullsStart old result new = MatchResult result
    (λ p. TakesStart old (forms p.0.items) p.1 new)
    (λ e. CarRefuses RefusesStart old e new)

-- how often a call that refuses looks at bytes: at most twice at each that was left
abbrev pub LooksTwice : {T E : Type 0} → Reading → Result T E → Reading → Type 0
LooksTwice old result new = MatchResult result (λ _. ⊤) (λ _. LooksAtLeft 2 0 old new)

-- this section was at the front, within the file, and was taken
abbrev pub TakesSectionBytes : Option ℕ → Reading → Section → Option ℕ → Reading → Type 0
TakesSectionBytes extent old s rest new = IsSection s × TakesOff extent old (section_bytes s) rest new

-- The file ends; or the section at the front was taken; or no section begins.
abbrev pub PullsSection : {E : Type 0} → Option ℕ → Reading → Result (Option Section) (CarError E)
    → Option ℕ → Reading → Type 0
PullsSection extent old result rest new = MatchResult result
    (λ next. MatchOption next (EndsThere extent old rest new)
    (λ s. TakesSectionBytes extent old s rest new))
    (λ e. CarRefuses (RefusesNext extent) old e new)

-- how often a call looks at the bytes of the file: at most twice at each of the section, and once
-- more at the first; at none after it, and none is peeked
abbrev pub LooksAtSection : {E : Type 0} → Reading → Result (Option Section) (CarError E) → Reading
    → Type 0
LooksAtSection old result new = MatchResult result
    (λ next. MatchOption next (LooksOnce old new)
    (λ s. LooksAtMost (2 * length (section_bytes s) + 1) old new × (new.shown ≡ [])))
    (λ _. LooksAtLeft 3 0 old new)

-- ---- the sections, one by one

-- what contracts see of a `CarReader`
pub record SectionStream : Type 0 where
  -- the reader that they come from
  pub source : Reading
  -- how much of the file is left there
  pub extent : Option ℕ
  -- whether an error, or the end, came
  pub done : Bool

-- what contracts see of a `CarReader`, by its reader's reading
abbrev pub section_stream : {R : Type 0} → (R → Reading) → CarReader R → SectionStream
section_stream reading s = record {
  source = input_reading reading s.input;
  extent = s.left;
  done = s.done;
}

-- an answer of `next` as one of `pull_section`
abbrev pub as_pulled : {S E : Type 0} → Option (Result S E) → Result (Option S) E
as_pulled None = Ok None
as_pulled (Some (Ok s)) = Ok (Some s)
as_pulled (Some (Err e)) = Err e

-- whether nothing follows this answer
abbrev pub is_last : {S E : Type 0} → Option (Result S E) → Bool
is_last None = true
is_last (Some r) = is_err r

-- a section is taken, or not; when memory runs out; and how often the file's bytes are looked at
pub record GivesNextSection {E : Type 0} (extent : Option ℕ) (old : Reading)
    (result : Result (Option Section) (CarError E)) (rest : Option ℕ) (new : Reading) : Type 0 where
  pub taken : PullsSection extent old result rest new
  pub memory : LacksMemoryIf (SectionLacks (of_file extent old)) result
  pub looked : LooksAtSection (of_file extent old) result (of_file rest new)

-- What `next` does: it returns `None` after the end or an error; else it reads the next section.
abbrev pub GivesSection : {E : Type 0} → SectionStream → Option (Result Section (CarError E))
    → SectionStream → Type 0
GivesSection old item new = MatchBool old.done
    ((item ≡ None) × (new ≡ old))
    ((new.done ≡ is_last item)
    × GivesNextSection old.extent old.source (as_pulled item) new.extent new.source)

-- no file begins, unless the source faulted or memory ran out
abbrev pub NotBegun : {E : Type 0} → Reading → CarError E → Type 0
NotBegun old (Read e) = ⊤
NotBegun old OutOfMemory = FileLacks old
NotBegun old e = (b : List ℕ) → old.left ≡ Some b → RefusesStart e b

-- The start of a file was taken, and its sections come next; or nothing was begun.
abbrev pub Begins : {R E : Type 0} → (R → Reading) → Reading
    → Result (Vec CidParts Global × CarReader R) (CarError E) → Type 0
Begins reading old result = MatchResult result
    (λ p. TakesStart old (forms p.0.items) (section_stream reading p.1).extent
    (section_stream reading p.1).source × (p.1.done ≡ false))
    (λ e. NotBegun old e)
