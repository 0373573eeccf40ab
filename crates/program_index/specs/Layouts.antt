-- Where the parts of a CAR file of version 2 are (CARv2 specification).
use Rattle.std.specs.Prelude.{◌≡◌, ◌≢◌, ℕ, List}
use Rattle.files_car.specs.Versions.{IsVersion2, number_after, begin_of, length_of, HasSpan}
use Rattle.program_index.specs.declared.layout.Layout.{Layout}

-- the offset of the index, which the header gives after the offset and the length of the payload
abbrev pub index_field : List ℕ → ℕ
index_field b = number_after 43 b

-- the bytes are of version 2, and their header says that they have an index
abbrev pub HasIndex : List ℕ → Type 0
HasIndex b = HasSpan b × (index_field b ≢ 0)

-- the parts of such bytes
pub record IsLayout (b : List ℕ) (found : Layout) : Type 0 where
  pub has : HasIndex b
  pub begin : found.begin ≡ begin_of b
  pub long : found.length ≡ length_of b
  pub index : found.index ≡ index_field b

-- where the CARv1 payload begins, in a file of either version
pub record BeginsAt (b : List ℕ) (place : ℕ) : Type 0 where
  pub within : HasSpan b → place ≡ begin_of b
  pub whole : (¬ IsVersion2 b) → place ≡ 0
