-- Reading a CAR file into a store.
use Rattle.std.specs.Prelude.{◌≡◌, ◌⊎◌, ℕ, List, length, Option, Some, Result, Err, MatchResult, Vec}
use Rattle.std.specs.List.{AllByRecursion}
use Rattle.std.specs.declared.alloc.Global.{Global}
use Rattle.serde_ipld_dagcbor.specs.Reading.{Reading, Stays}
use Rattle.serde_ipld_dagcbor.specs.Cid.{CidParts}
use Rattle.serde_ipld_dagcbor.specs.Walks.{forms}
use Rattle.ipld_links.specs.Sound.{IsSound}
use Rattle.files_car.specs.Car.{Section}
use Rattle.files_car.specs.Versions.{IsFile}
use Rattle.files_car.specs.Extents.{bytes_within, wanting}
use Rattle.files_car.specs.Sources.{CarRefuses, RefusesStart, TakesSectionBytes, LacksMemoryIf, FileLacks}
use Rattle.files_car.specs.Checks.{IsFileFront, StandAfter}
use Rattle.files_car.specs.Each.{NoneNext, AreTooMany}
use Rattle.files_car.specs.declared.each.ReadCarError.{ReadCarError}
use Rattle.files_car.specs.declared.each.ReadCarError.TheVariants as stop
use Rattle.dagcbor_blocks.specs.Blocks.{Held, HoldsAlso}
use Rattle.dagcbor_blocks.specs.Bytes.{PutBytesRefused}
use Rattle.dagcbor_blocks.specs.declared.put_error.PutBlockError.{PutBlockError}

-- ---- the file

-- the header of these roots and these sections were taken from the front of a file, and this much
-- of it is left; the sections are sound, and were added to the stored blocks
pub record IsKeptTo (roots : List (List ℕ)) (sections : List Section) (old : Reading)
    (before : Held) (extent : Option ℕ) (now : Reading) (after : Held) : Type 0 where
  pub known : (b : List ℕ) → old.left ≡ Some b → (rest : List ℕ) × (now.left ≡ Some rest)
      × IsFileFront b roots sections (wanting extent rest) (bytes_within extent rest)
  pub same : Stays old now
  pub blocks : AllByRecursion IsSound sections
  pub holds : HoldsAlso before sections after

-- the bytes left, if they are known, are the file of these roots and sections; it was taken, and
-- the bytes after it are left
abbrev pub TakesCar : Reading → List (List ℕ) → List Section → Reading → Type 0
TakesCar old roots sections new = (b : List ℕ) → old.left ≡ Some b
    → IsFile b roots sections × ((rest : List ℕ) × StandAfter b rest × (new.left ≡ Some rest))

-- the whole file was taken, with these sections: all
-- are sound, and were added to the stored blocks
pub record KeepsAll (roots : List (List ℕ)) (sections : List Section) (old : Reading)
    (before : Held) (new : Reading) (after : Held) : Type 0 where
  pub is_car : TakesCar old roots sections new
  pub same : Stays old new
  pub blocks : AllByRecursion IsSound sections
  pub holds : HoldsAlso before sections after

-- why no section is stored after `count` others: bytes are left or missing, and no section begins;
-- or the next one, which was taken, is refused
abbrev pub KeepsNoneNext : {E : Type 0} → ℕ → Option ℕ → Reading → Held → ReadCarError E PutBlockError → Reading
    → Type 0
KeepsNoneNext count extent old held (stop.Header e) new = ⊥
KeepsNoneNext count extent old held (stop.Section n e) new = (n ≡ count) × NoneNext extent old e new
KeepsNoneNext count extent old held (stop.Block n name e) new = (s : Section) × (more : Option ℕ)
    × (n ≡ count) × TakesSectionBytes extent old s more new × (name ≡ s.0) × PutBytesRefused s held e

-- no file begins, for this cause; memory runs out only for a header
abbrev pub NoFileBegins : {E : Type 0} → Reading → ReadCarError E PutBlockError → Reading → Type 0
NoFileBegins old (stop.Header e) new = CarRefuses RefusesStart old e new
    × LacksMemoryIf {T = Unit {0}} (FileLacks old) (Err e)
NoFileBegins old _ new = ⊥

-- why a file is not read, and which blocks are stored: no file begins; or all sections up to a
-- place were stored, and no more
abbrev pub FileUnread : {E : Type 0} → Reading → Held → ReadCarError E PutBlockError → Reading → Held
    → Type 0
FileUnread old before e new after = (NoFileBegins old e new × (after ≡ before))
    ⊎ ((roots : List (List ℕ)) × (sections : List Section) × (extent : Option ℕ) × (mid : Reading)
    × IsKeptTo roots sections old before extent mid after
    × (KeepsNoneNext (length sections) extent mid after e new ⊎ ((new ≡ mid) × AreTooMany sections e)))

-- A file of either version is read exactly if all of its sections are sound, unless the source
-- faults, memory runs out, or names collide. The sections taken are added to the stored blocks.
abbrev pub ReadsCar : {E : Type 0} → Reading → Held
    → Result (Vec CidParts Global) (ReadCarError E PutBlockError) → Reading → Held → Type 0
ReadsCar old before result new after = MatchResult result
    (λ v. (sections : List Section) × KeepsAll (forms v.items) sections old before new after)
    (λ e. FileUnread old before e new after)
