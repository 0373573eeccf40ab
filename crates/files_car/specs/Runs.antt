-- Sequences of calls: the items that `next` returns, and the file that `write` makes.
use Rattle.std.specs.Prelude.{◌≡◌, ◌≢◌, ◌⊎◌, ℕ, Bool, false, List, [], ◌∷◌, ⊤, Option, None, Some, Result, Ok, Err, MatchResult, Vec, flat_map}
use Rattle.std.specs.List.{AllByRecursion}
use Rattle.std.specs.declared.alloc.Global.{Global}
use Rattle.dagcbor_heads.specs.Reading.{Reading}
use Rattle.dagcbor_heads.specs.Written.{Written, WroteAll}
use Rattle.ipld_tree.specs.Cid.{CidParts}
use Rattle.dagcbor_items.specs.Walks.{forms}
use Rattle.files_car.specs.Car.{Section, section_bytes, car_bytes, IsCar}
use Rattle.files_car.specs.Splits.{SplitsSection}
use Rattle.files_car.specs.Versions.{IsFile}
use Rattle.files_car.specs.Extents.{bytes_within, wanting}
use Rattle.files_car.specs.Sources.{RefusesSection, SectionStream, section_stream, GivesSection, Begins}
use Rattle.files_car.specs.Writers.{WriterState, BeginsCar, WritesSection}
use Rattle.files_car.specs.declared.error.CarError.{CarError}
use Rattle.files_car.specs.declared.error.CarError.TheVariants.{Read, OutOfMemory}
use Rattle.files_car.specs.declared.reader.CarReader.{CarReader}

-- ---- the items of `next`

-- the answer of one call of `next`
abbrev pub Item : Type 0 → Type 0
Item E = Option (Result Section (CarError E))

-- calls of `next`, one after another, returned these items
abbrev pub GivesItems : {E : Type 0} → SectionStream → List (Item E) → Type 0
GivesItems old [] = ⊤
GivesItems old (item ∷ items) = (new : SectionStream) × GivesSection old item new
    × GivesItems new items

-- each of the calls returned `None`
abbrev pub AreNone : {E : Type 0} → List (Item E) → Type 0
AreNone items = AllByRecursion (λ item. item ≡ None) items

-- an error that says nothing about the bytes: a fault of the source; or out of memory, which needs
-- a source that does not lend, and bytes left
abbrev pub GivesUpOnFile : {E : Type 0} → Bool → List ℕ → CarError E → Type 0
GivesUpOnFile lends b (Read e) = ⊤
GivesUpOnFile lends b OutOfMemory = (lends ≡ false) × (b ≢ [])
GivesUpOnFile lends b _ = ⊥

-- The items are the sections at the front of the bytes, in order. Then comes the end, if no bytes
-- are left or missing; or one error: no section begins there, for its cause, or it says nothing
-- about the bytes. Then only `None` comes.
abbrev pub AreItemsOf : {E : Type 0} → Bool → ℕ → List ℕ → List (Item E) → Type 0
AreItemsOf lends n b [] = ⊤
AreItemsOf lends n b (Some (Ok s) ∷ items) = (rest : List ℕ) × SplitsSection b s rest
    × AreItemsOf lends n rest items
AreItemsOf lends n b (Some (Err e) ∷ items) = (GivesUpOnFile lends b e ⊎ RefusesSection n e b)
    × AreNone items
AreItemsOf lends n b (None ∷ items) = (b ≡ []) × (n ≡ 0) × AreNone items

-- However often `next` is called, over known bytes, it returns the items of the file's bytes.
abbrev pub RunsAreExact : Type 0 → Type 0
RunsAreExact E = (s : SectionStream) (b : List ℕ) (items : List (Item E)) → s.done ≡ false
    → s.source.left ≡ Some b → GivesItems s items
    → AreItemsOf s.source.lends (wanting s.extent b) (bytes_within s.extent b) items

-- ---- reading a file

-- The items are these sections, and then the end; or some of these sections, and then an error that
-- says nothing about the bytes. Then only `None` comes.
abbrev pub AreSections : {E : Type 0} → Bool → List (Item E) → List Section → Type 0
AreSections lends [] sections = ⊤
AreSections lends (Some (Ok s) ∷ items) sections = (more : List Section) × (sections ≡ s ∷ more)
    × AreSections lends items more
AreSections lends (Some (Err e) ∷ items) sections =
    GivesUpOnFile lends (flat_map section_bytes sections) e × AreNone items
AreSections lends (None ∷ items) sections = (sections ≡ []) × AreNone items

-- an error of the header that says nothing about the bytes: a fault of the source, or out of memory
abbrev pub DoesNotBegin : {E : Type 0} → CarError E → Type 0
DoesNotBegin (Read e) = ⊤
DoesNotBegin OutOfMemory = ⊤
DoesNotBegin _ = ⊥

-- The file of these roots and sections is read back as
-- them, unless the source faults or memory runs out.
abbrev pub CarsReadBack : {R : Type 0} → Type 0 → (R → Reading) → Type 0
CarsReadBack {R} E reading = (b : List ℕ) (roots : List (List ℕ)) (sections : List Section)
    (old : Reading) (result : Result (Vec CidParts Global × CarReader R) (CarError E))
    → IsFile b roots sections → old.left ≡ Some b → Begins reading old result
    → MatchResult result
    (λ p. (forms p.0.items ≡ roots) × ((items : List (Item E))
    → GivesItems (section_stream reading p.1) items → AreSections old.lends items sections))
    DoesNotBegin

-- ---- the file of `write`

-- these sections were written one after another, and each was accepted
abbrev pub WritesSections : {W : Type 0} → Type 0 → (W → Written) → Bool → WriterState W
    → List Section → WriterState W → Type 0
WritesSections E written takes_memory old [] new = new ≡ old
WritesSections {W} E written takes_memory old (s ∷ sections) new = (mid : WriterState W)
    × WritesSection {T = Unit {0}} {E = E} written takes_memory s old (Ok tt) mid
    × WritesSections E written takes_memory mid sections new

-- After the header and these sections, the writer has the file with these
-- roots and sections, after what it had before.
abbrev pub CarsAreWritten : {W : Type 0} → Type 0 → (W → Written) → Bool → Type 0
CarsAreWritten {W} E written takes_memory = (old : W) (begun new : WriterState W)
    (roots : List (List ℕ)) (sections : List Section) → BeginsCar {E = E} written old roots (Ok begun)
    → WritesSections E written takes_memory begun sections new
    → IsCar (car_bytes roots sections) roots sections
    × WroteAll (Some (car_bytes roots sections)) (written old) (written new.writer)
