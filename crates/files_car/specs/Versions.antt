-- The two versions of a CAR file (CARv2 specification): version 2 is a header before a file of
-- version 1, with any bytes between them and after.
use Rattle.std.specs.Prelude.{◌≡◌, ◌⊎◌, ℕ, ◌+◌, ◌-◌, ◌^◌, ◌<◌, ◌≤◌, List, [], ◌∷◌, ◌++◌, length, take, drop}
use Rattle.std.specs.Int.{w64, from_le_bytes}
use Rattle.files_car.specs.Car.{Section, IsCar}
use Rattle.files_car.specs.declared.error.CarError.{CarError}
use Rattle.files_car.specs.declared.error.CarError.TheVariants.{Truncated, InvalidOffset}

-- the bytes that begin version 2: the map of the version alone, after its length
abbrev pub pragma : List ℕ
pragma = 0x0a ∷ 0xa1 ∷ 0x67 ∷ 0x76 ∷ 0x65 ∷ 0x72 ∷ 0x73 ∷ 0x69 ∷ 0x6f ∷ 0x6e ∷ 0x02 ∷ []

-- the bytes begin with those of version 2
abbrev pub IsVersion2 : List ℕ → Type 0
IsVersion2 b = take 11 b ≡ pragma

-- the little-endian number in the eight bytes after the first n
abbrev pub number_after : ℕ → List ℕ → ℕ
number_after n b = from_le_bytes w64 (take 8 (drop n b))

-- where the file of version 1 begins: a number after the pragma and 16 bytes of characteristics
abbrev pub begin_of : List ℕ → ℕ
begin_of b = number_after 27 b

-- how long the file of version 1 is: a number after the one that says where it begins
abbrev pub length_of : List ℕ → ℕ
length_of b = number_after 35 b

-- the header of version 2 is whole, and the file of
-- version 1 begins after it, and ends below 2 ^ 64
pub record HasSpan (b : List ℕ) : Type 0 where
  pub version : IsVersion2 b
  pub whole : 51 ≤ length b
  pub begin : 51 ≤ begin_of b
  pub end : begin_of b + length_of b < 2 ^ 64

-- The bytes that are there of the file of version 1, and how many of it are missing: all bytes; or
-- in version 2 as many as it says, from where it says.
abbrev pub HoldsCar : List ℕ → List ℕ → ℕ → Type 0
HoldsCar b car wanting = ((¬ IsVersion2 b) × (car ≡ b) × (wanting ≡ 0))
    ⊎ (HasSpan b × (car ≡ take (length_of b) (drop (begin_of b) b))
    × (wanting ≡ length_of b - length car))

-- The bytes are a CAR file, of either version, with these roots and sections.
abbrev pub IsFile : List ℕ → List (List ℕ) → List Section → Type 0
IsFile b roots sections = (car : List ℕ) × HoldsCar b car 0 × IsCar car roots sections

-- why bytes of version 2 do not say where the file of version 1 is
abbrev pub SpanFault : {E : Type 0} → CarError E → List ℕ → Type 0
SpanFault Truncated b = IsVersion2 b × (length b < 51)
SpanFault InvalidOffset b = IsVersion2 b × (51 ≤ length b)
    × ((begin_of b < 51) ⊎ (2 ^ 64 ≤ begin_of b + length_of b))
SpanFault _ b = ⊥

-- the bytes begin version 2, or more bytes after them can make them do so
abbrev pub MayBeVersion2 : List ℕ → Type 0
MayBeVersion2 b = (more : List ℕ) × IsVersion2 (b ++ more)

-- the bytes are too few to say where the file of version 1 is, or they say no valid place
abbrev pub SpanRefused : {E : Type 0} → CarError E → List ℕ → Type 0
SpanRefused e b = ((e ≡ Truncated) × MayBeVersion2 b × (length b < 51)) ⊎ SpanFault e b
