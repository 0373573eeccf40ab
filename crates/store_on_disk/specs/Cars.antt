-- What is read into a store from a CAR file.
use Rattle.std.specs.Prelude.{◌≡◌, ◌≢◌, ◌↔◌, ◌⊎◌, ℕ, ◌-◌, ◌^◌, List, [], length, Option, None, Some}
use Rattle.std.specs.Prelude.{IsTrue, Result, Err, MatchResult, Vec}
use Rattle.std.specs.List.{AllByRecursion}
use Rattle.std.specs.declared.alloc.Global.{Global}
use Rattle.sqlite_trees.specs.Tree.{Trees}
use Rattle.sqlite_trees.specs.View.{View, IsClean}
use Rattle.sqlite_trees.specs.declared.store.Store.{Ghosts}
use Rattle.dagcbor_heads.specs.Reading.{Reading, Stays}
use Rattle.ipld_tree.specs.Cid.{CidParts, cid_bytes}
use Rattle.dagcbor_items.specs.Walks.{forms}
use Rattle.files_car.specs.Car.{Section}
use Rattle.files_car.specs.Versions.{IsFile}
use Rattle.files_car.specs.Extents.{bytes_within, wanting, of_file, EndsThere}
use Rattle.files_car.specs.Sources.{CarRefuses, RefusesStart, RefusesNext, TakesSectionBytes}
use Rattle.files_car.specs.Sources.{LacksMemoryIf, FileLacks, SectionLacks}
use Rattle.files_car.specs.Checks.{IsFileFront, StandAfter}
use Rattle.ipld_links.specs.Sets.{Among}
use Rattle.ipld_links.specs.Sound.{IsSound, IsUnsound}
use Rattle.files_car.specs.declared.error.CarError.{CarError}
use Rattle.files_car.specs.declared.error.CarError.TheVariants as file
use Rattle.files_car.specs.declared.each.ReadCarError as run
use Rattle.files_car.specs.declared.each.ReadCarError.TheVariants as stop
use Rattle.store_rows.specs.Rows.{block_tree, name_tree, IsStored, IsListed, FreesId}
use Rattle.store_rows.specs.Ends.{Quiet, KeepsOthers, IsOfBlocks, IsOfRoots}
use Rattle.store_on_disk.specs.Stored.{IsAdded, IsTooLongFor, FailsByStore, PutRefused}
use Rattle.store_on_disk.specs.Roots.{IsEarlier, GainsRoots, MayKeepRoots, ComesNext, LacksNumber}
use Rattle.store_on_disk.specs.Roots.{IsAnyTooLong, RootsRefused}
use Rattle.store_on_disk.specs.declared.error.StoreRefusal.{StoreRefusal}
use Rattle.store_on_disk.specs.declared.error.StoreRefusal.TheVariants as refusal
use Rattle.store_on_disk.specs.declared.car_error.ReadCarError.{ReadCarError}
use Rattle.store_on_disk.specs.declared.car_error.ReadCarError.TheVariants as car

-- ---- what is stored

-- a section has this name, given in its binary form
abbrev pub IsNameIn : List Section → List ℕ → Type 0
IsNameIn sections q = (s : Section) × Among s sections × (cid_bytes s.0 ≡ q)

-- a section has this name and these bytes
abbrev pub IsSectionIn : List Section → List ℕ → List ℕ → Type 0
IsSectionIn sections q b = (s : Section) × Among s sections × (cid_bytes s.0 ≡ q) × (s.1 ≡ b)

-- the tables of blocks and of roots, and the index of names
abbrev pub IsOfStore : ℕ → Type 0
IsOfStore t = IsOfBlocks t ⊎ IsOfRoots t

-- Under the name of each section the bytes of a section of that name are stored, and no others;
-- under each other name, what was stored there. Each tree that is not a store's is the same.
pub record HoldsSections (old new : Trees) (sections : List Section) : Type 0 where
  pub named : (q b : List ℕ) → IsNameIn sections q → IsStored new q b → IsSectionIn sections q b
  pub each : (q : List ℕ) → IsNameIn sections q → (b : List ℕ) × IsStored new q b
  pub others : (q b : List ℕ) → (IsNameIn sections q → ⊥) → IsStored new q b ↔ IsStored old q b
  pub lists : (q : List ℕ) → IsListed (new name_tree) q
      ↔ (IsNameIn sections q ⊎ IsListed (old name_tree) q)
  pub beside : KeepsOthers IsOfStore old new

-- the sections' blocks are stored, all else is as it was, and all of it is committed
pub record IsFilled (old new : View) (sections : List Section) : Type 0 where
  pub trees : HoldsSections old.trees new.trees sections
  pub committed : new.committed ≡ new.trees
  pub is_open : IsTrue new.is_open

-- ---- the file

-- out of memory has a variant of its own, and is never inside another
abbrev pub TellsOfFile : {E : Type 0} → (CarError E → ReadCarError E)
    → CarError E → ReadCarError E → Type 0
TellsOfFile variant file.OutOfMemory told = told ≡ car.OutOfMemory
TellsOfFile variant error told = told ≡ variant error

-- The refusal is that of the file, converted, for a cause that is so (`CarRefuses`). The call runs
-- out of memory only if `lacks` holds.
pub record FileRefused {E : Type 0} (variant : CarError E → ReadCarError E)
    (stands : CarError E → List ℕ → Type 0) (lacks : Type 0)
    (old : Reading) (e : ReadCarError E) (new : Reading) : Type 0 where
  pub error : CarError E
  pub tells : TellsOfFile variant error e
  pub refused : CarRefuses stands old error new
  pub memory : LacksMemoryIf {T = Unit {0}} lacks (Err error)

-- the header of these roots and these sections came first in a CAR file, and were taken, and
-- `extent` is how much of it is left; the sections are sound
pub record IsReadTo (roots : List (List ℕ)) (sections : List Section)
    (old : Reading) (extent : Option ℕ) (now : Reading) : Type 0 where
  pub known : (b : List ℕ) → old.left ≡ Some b → (rest : List ℕ) × (now.left ≡ Some rest)
      × IsFileFront b roots sections (wanting extent rest) (bytes_within extent rest)
  pub same : Stays old now
  pub blocks : AllByRecursion IsSound sections

-- the bytes left, if they are known, are the CAR file of these roots and sections, and it is taken,
-- and nothing after it; the sections are sound
pub record IsFileRead (roots : List (List ℕ)) (sections : List Section)
    (old new : Reading) : Type 0 where
  pub is_car : (b : List ℕ) → old.left ≡ Some b
      → IsFile b roots sections × ((rest : List ℕ) × StandAfter b rest × (new.left ≡ Some rest))
  pub same : Stays old new
  pub blocks : AllByRecursion IsSound sections

-- ---- refusals

-- converts the refusal of the block of a section after `count` others: a refusal of the block is
-- returned with that count and its name, and one of the store as such
abbrev pub of_block : {E : Type 0} → ℕ → CidParts → StoreRefusal → ReadCarError E
of_block count name (refusal.Unsound e) = car.Block count name (refusal.Unsound e)
of_block count name refusal.TooLong = car.Block count name refusal.TooLong
of_block count name refusal.OutOfMemory = car.OutOfMemory
of_block count name told = car.Store told

-- converts the refusal of the roots, or of the commit
abbrev pub of_refusal : {E : Type 0} → StoreRefusal → ReadCarError E
of_refusal refusal.OutOfMemory = car.OutOfMemory
of_refusal told = car.Store told

-- by which refusal it is returned that not all sections were added
abbrev pub TellsOfRun : {E : Type 0} → run.ReadCarError E StoreRefusal → ReadCarError E → Type 0
TellsOfRun (stop.Header e) told = TellsOfFile car.Header e told
TellsOfRun (stop.Section n e) told = TellsOfFile (car.Section n) e told
TellsOfRun (stop.Block n name refusal) told = told ≡ of_block n name refusal

-- one of the names is not a root, and no number is left for it, after the earlier roots and the
-- names before it
pub record RootNumbersEnd (old : Trees) (names : List CidParts) : Type 0 where
  pub mid : Trees
  pub first : List CidParts
  pub name : CidParts
  pub stands : ComesNext first name names
  pub gains : GainsRoots old mid first
  pub lacks : LacksNumber mid name

-- Why the roots of a CAR file are not kept: there are some, and the database is of the earlier
-- version; or no number is left; or the store failed.
abbrev pub RootsNotKept : {S : Type 0} → Ghosts S → List CidParts → S → S → StoreRefusal → Type 0
RootsNotKept g roots old new refusal.EarlierVersion = IsEarlier (g.view old) × (roots ≢ [])
RootsNotKept g roots old new refusal.NoNumber =
    IsClean (g.view new) → RootNumbersEnd (g.view old).trees roots
RootsNotKept g roots old new told = FailsByStore g (IsAnyTooLong (g.view old) roots) old new told

-- a row has the greatest number, after these sections
pub record NumbersEnd (old : Trees) (sections : List Section) : Type 0 where
  pub mid : Trees
  pub holds : HoldsSections old mid sections
  pub ends : FreesId (mid block_tree) None

-- Why the block of the section after these is not kept: it is not sound; or no number is left; or
-- the store failed, for instance because the block is too long for a row.
abbrev pub NotKept : {S : Type 0} → Ghosts S → List Section
    → S → S → Section → StoreRefusal → Type 0
NotKept g sections old new s (refusal.Unsound e) = IsUnsound s e
NotKept g sections old new s refusal.NoNumber =
    IsClean (g.view new) → NumbersEnd (g.view old).trees sections
NotKept g sections old new s told = FailsByStore g (IsTooLongFor (g.view old) s) old new told

-- no section was taken after `count` others: bytes are malformed there, or are missing
abbrev pub SectionRefused : {E : Type 0} → ℕ → Option ℕ
    → Reading → ReadCarError E → Reading → Type 0
SectionRefused count extent old e new = FileRefused (car.Section count)
    (RefusesNext extent) (SectionLacks (of_file extent old)) old e new

-- the section after `count` others was taken, and its block is refused, for such a cause
pub record BlockRefused {E : Type 0} (IsWhy : Section → StoreRefusal → Type 0)
    (count : ℕ) (extent : Option ℕ)
    (old : Reading) (e : ReadCarError E) (new : Reading) : Type 0 where
  pub section : Section
  pub more : Option ℕ
  pub told : StoreRefusal
  pub taken : TakesSectionBytes extent old section more new
  pub says : e ≡ of_block count section.0 told
  pub why : IsWhy section told

-- the header of these roots was taken, and they are refused, for such a cause
pub record RootsOfFileRefused {E : Type 0} (IsWhy : List CidParts → StoreRefusal → Type 0)
    (old : Reading) (e : ReadCarError E) (new : Reading) : Type 0 where
  pub roots : List CidParts
  pub extent : Option ℕ
  pub told : StoreRefusal
  pub taken : IsReadTo (forms roots) [] old extent new
  pub says : e ≡ of_refusal told
  pub why : IsWhy roots told

-- the file ends here, and the commit failed
pub record CommitFails {S E : Type 0} (g : Ghosts S) (extent : Option ℕ)
    (old : Reading) (before : S) (e : ReadCarError E) (new : Reading) (after : S) : Type 0 where
  pub more : Option ℕ
  pub told : StoreRefusal
  pub ends : EndsThere extent old more new
  pub says : e ≡ of_refusal told
  pub failed : FailsByStore g ⊥ before after told

-- the call gives up after this many sections, and takes no more
pub record GivesUpAfter {E : Type 0} (sections : List Section)
    (old : Reading) (e : ReadCarError E) (new : Reading) : Type 0 where
  pub same : new ≡ old
  pub says : e ≡ car.OutOfMemory
  pub many : length sections ≡ 2 ^ 64 - 1

-- Why no more sections are kept after these: none was taken; or the next was, and is refused; or
-- the file ends, and the commit failed; or these are too many.
abbrev pub StopsAt : {S E : Type 0} → Ghosts S → List Section → Option ℕ
    → Reading → S → ReadCarError E → Reading → S → Type 0
StopsAt g sections extent old before e new after =
    SectionRefused (length sections) extent old e new
    ⊎ (BlockRefused (NotKept g sections before after) (length sections) extent old e new
    ⊎ (CommitFails g extent old before e new after
    ⊎ GivesUpAfter sections old e new))

-- the header of some roots, which may be kept, and some sections were taken, and no more are kept
pub record KeepsNoMore {S E : Type 0} (g : Ghosts S)
    (old : Reading) (before : S) (e : ReadCarError E) (new : Reading) (after : S) : Type 0 where
  pub roots : List CidParts
  pub sections : List Section
  pub extent : Option ℕ
  pub mid : Reading
  pub keeps : MayKeepRoots (g.view before) roots
  pub taken : IsReadTo (forms roots) sections old extent mid
  pub stops : StopsAt g sections extent mid before e new after

-- Why a CAR file is not read: no header was taken; or its roots are not kept; or not all of its
-- sections are.
abbrev pub ReadRefused : {S E : Type 0} → Ghosts S
    → Reading → S → ReadCarError E → Reading → S → Type 0
ReadRefused g old before e new after =
    FileRefused car.Header RefusesStart (FileLacks old) old e new
    ⊎ (RootsOfFileRefused (λ roots told. RootsNotKept g roots before after told) old e new
    ⊎ KeepsNoMore g old before e new after)

-- A crash after the call leaves what it could leave before, or that with the blocks and roots of a
-- whole file, which was taken.
pub record MayLeave (old new : Reading) (before db : Trees) : Type 0 where
  pub roots : List CidParts
  pub sections : List Section
  pub read : IsFileRead (forms roots) sections old new
  pub holds : HoldsSections before db sections
  pub gains : GainsRoots before db roots

-- ---- steps

-- these roots and sections were added, and what was committed is the same
pub record IsAddedAll (old new : View)
    (roots : List CidParts) (sections : List Section) : Type 0 where
  pub trees : HoldsSections old.trees new.trees sections
  pub gains : GainsRoots old.trees new.trees roots
  pub committed : new.committed ≡ old.committed
  pub reals : new.reals ≡ old.reals
  pub is_open : new.is_open ≡ old.is_open
  pub broken : new.is_broken ≡ old.is_broken

-- these roots and sections were added, and no fault is forgotten
pub record AddsSections {S : Type 0} (g : Ghosts S)
    (roots : List CidParts) (sections : List Section) (old new : S) : Type 0 where
  pub keeps : MayKeepRoots (g.view old) roots
  pub added : IsClean (g.view new) → IsAddedAll (g.view old) (g.view new) roots sections
  pub quiet : Quiet g old new

-- The block of a section is added under its name, or refused.
abbrev pub TakesBlock : {S : Type 0} → Ghosts S
    → Section → S → Result (Unit {0}) StoreRefusal → S → Type 0
TakesBlock g s before result after = Quiet g before after × MatchResult result
    (λ _. IsSound s × (IsClean (g.view after) → IsAdded (g.view before) (g.view after) s.0 s.1))
    (λ told. PutRefused g s before after told)

-- Why no more sections are added after `count`: none was taken, or the next was, and is refused.
abbrev pub NextRefused : {S E : Type 0} → Ghosts S → ℕ → Option ℕ
    → Reading → S → ReadCarError E → Reading → S → Type 0
NextRefused g count extent old before e new after =
    (SectionRefused count extent old e new × (after ≡ before))
    ⊎ BlockRefused (λ s told. PutRefused g s before after told) count extent old e new

-- the header of some roots and some sections were taken, and added, and no more are
pub record AddsNoMore {S E : Type 0} (g : Ghosts S)
    (old : Reading) (before : S) (e : ReadCarError E) (new : Reading) (after : S) : Type 0 where
  pub roots : List CidParts
  pub sections : List Section
  pub extent : Option ℕ
  pub mid : Reading
  pub held : S
  pub taken : IsReadTo (forms roots) sections old extent mid
  pub adds : AddsSections g roots sections before held
  pub quiet : Quiet g held after
  pub stops : NextRefused g (length sections) extent mid held e new after
      ⊎ ((after ≡ held) × GivesUpAfter sections mid e new)

-- Why not all of a CAR file is added: no header was taken; or its roots are refused; or not all of
-- its sections are added.
abbrev pub AddRefused : {S E : Type 0} → Ghosts S
    → Reading → S → ReadCarError E → Reading → S → Type 0
AddRefused g old before e new after =
    (FileRefused car.Header RefusesStart (FileLacks old) old e new × (after ≡ before))
    ⊎ (RootsOfFileRefused (λ roots told. RootsRefused g roots before after told) old e new
    ⊎ AddsNoMore g old before e new after)

-- these roots and the sections of a whole file, `count` of them, are added
pub record AddsWhole {S : Type 0} (g : Ghosts S) (old : Reading) (before : S)
    (roots : List CidParts) (count : ℕ) (new : Reading) (after : S) : Type 0 where
  pub sections : List Section
  pub extent : Option ℕ
  pub more : Option ℕ
  pub mid : Reading
  pub counts : count ≡ length sections
  pub taken : IsReadTo (forms roots) sections old extent mid
  pub ends : EndsThere extent mid more new
  pub read : IsFileRead (forms roots) sections old new
  pub adds : AddsSections g roots sections before after

-- All of a CAR file is added, and its roots are returned, with the number of its sections; or it is
-- refused.
abbrev pub AddsCar : {S E : Type 0} → Ghosts S
    → Reading → S → Result (Vec CidParts Global × ℕ) (ReadCarError E) → Reading → S → Type 0
AddsCar g old before result new after = MatchResult result
    (λ p. AddsWhole g old before p.0.items p.1 new after)
    (λ e. AddRefused g old before e new after)
