-- The steps of reading a file's start, and of finding its end.
use Rattle.std.specs.Prelude.{◌≡◌, ◌≢◌, ℕ, ◌+◌, ◌*◌, ◌<◌, List, [], ◌++◌, length, true, Option, None, Some}
use Rattle.dagcbor_heads.specs.Reading.{Reading, Keeps, Stays}
use Rattle.dagcbor_heads.specs.Fronts.{Takes}
use Rattle.dagcbor_heads.specs.Looking.{LooksAtMost}
use Rattle.files_car.specs.Car.{IsHeader}
use Rattle.files_car.specs.Splits.{CountsBlock}
use Rattle.files_car.specs.Versions.{pragma, begin_of, length_of, HasSpan, HoldsCar}
use Rattle.files_car.specs.Extents.{bytes_within, wanting}
use Rattle.files_car.specs.Sources.{IsStartOfFile}

-- fewer than `count` bytes of the file are left
abbrev pub ExceedsExtent : Option ℕ → ℕ → Type 0
ExceedsExtent extent count = (n : ℕ) × (extent ≡ Some n) × (n < count)

-- bytes of the file are left or missing, and the reader is unchanged
pub record IsDue (extent : Option ℕ) (old new : Reading) : Type 0 where
  pub some : (b : List ℕ) → old.left ≡ Some b → 0 < length (bytes_within extent b) + wanting extent b
  pub ends_none : extent ≡ None → (b : List ℕ) → old.left ≡ Some b → b ≢ []
  pub kept : Keeps old new
  pub same : Stays old new

-- After the bytes that begin version 2: the fields of the header, and the bytes before the file of
-- version 1, were taken; that file is n bytes long.
pub record TakesSpan (old : Reading) (n : ℕ) (new : Reading) : Type 0 where
  pub front : List ℕ
  pub takes : Takes old front new
  pub span : HasSpan (pragma ++ front)
  pub begins : 11 + length front ≡ begin_of (pragma ++ front)
  pub long : n ≡ length_of (pragma ++ front)
  pub looked : LooksAtMost (2 * length front) old new

-- After the bytes that begin version 2: the rest of the start of a file was taken.
pub record TakesEnclosed (old : Reading) (roots : List (List ℕ)) (extent : Option ℕ) (new : Reading) : Type 0 where
  pub front : List ℕ
  pub header : IsHeader roots
  pub start : IsStartOfFile (pragma ++ front) roots extent
  pub takes : Takes old front new
  pub looked : LooksAtMost (2 * length front) old new
  pub none_shown : new.shown ≡ []

-- when memory may run out there: over a slice only after a whole block
abbrev pub EnclosedLacks : Reading → Type 0
EnclosedLacks old = old.lends ≡ true → (b : List ℕ) → old.left ≡ Some b
    → (car : List ℕ) × (n : ℕ) × HoldsCar (pragma ++ b) car n × CountsBlock car
