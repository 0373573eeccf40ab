-- A CAR file of version 2 with an index of its sections (CARv2 specification).
use Rattle.std.specs.Prelude.{◌≡◌, ◌⊎◌, ℕ, ◌+◌, List, [], ◌∷◌, ◌++◌, length, replicate, Bool, true, false, Option, Result, MatchResult, IsPermutation, IsSorted}
use Rattle.std.specs.Int.{w64, to_le_bytes}
use Rattle.std.specs.Bool.{⊤}
use Rattle.std.specs.Io.KnownBytes.{Appends}
use Rattle.files_car.specs.Car.{Section, section_bytes, header_bytes, car_bytes}
use Rattle.files_car.specs.Versions.{pragma, IsFile}
use Rattle.files_index.specs.Index.{EntryParts, entry_cmp, index_bytes}
use Rattle.program_parts.specs.Holding.{TellsFault}
use Rattle.program_shared.specs.declared.fault.ToolError.{ToolError}

-- ---- the entries

-- the entry of a section at this offset in the CARv1 payload
abbrev pub entry_of : ℕ → Section → EntryParts
entry_of place s = record { hash_code = s.0.hash_code; digest = s.0.digest; offset = place }

-- the entries of consecutive sections, the first at this offset
abbrev pub entries_of : ℕ → List Section → List EntryParts
entries_of place [] = []
entries_of place (s ∷ ss) = entry_of place s ∷ entries_of (place + length (section_bytes s)) ss

-- these are the entries of all sections of the CARv1 payload, in order
pub record AreEntries (roots : List (List ℕ)) (sections : List Section) (entries : List EntryParts) : Type 0 where
  pub each : IsPermutation (entries_of (length (header_bytes roots)) sections) entries
  pub sorted : IsSorted entry_cmp entries

-- ---- the file

-- the CARv2 header before a CARv1 payload of `n` bytes and an index: the pragma; the
-- characteristics, whose first bit says that all sections are listed; the offset and length of the
-- payload, and the offset of the index
abbrev pub version_2_header : ℕ → List ℕ
version_2_header n = pragma ++ ((0x80 ∷ replicate 15 0)
    ++ (to_le_bytes w64 51 ++ (to_le_bytes w64 n ++ to_le_bytes w64 (51 + n))))

-- the header, the CARv1 payload, and the index
abbrev pub indexed_bytes : List ℕ → List ℕ → List ℕ
indexed_bytes car index = version_2_header (length car) ++ (car ++ index)

-- What `index` writes for a file: a CAR file of version 2, with the file's CARv1 payload and an
-- index of all its sections. If the bytes are not a CAR file: nothing, and a line that says why.
abbrev pub IsIndexed : List ℕ → Bool → List ℕ → List ℕ → Type 0
IsIndexed b well out told = ((roots : List (List ℕ)) × (sections : List Section) × (entries : List EntryParts)
    × IsFile b roots sections × AreEntries roots sections entries
    × (out ≡ indexed_bytes (car_bytes roots sections) (index_bytes entries))
    × (well ≡ true) × (told ≡ []))
    ⊎ ((well ≡ false) × (out ≡ []) × TellsFault (λ sections. ⊤) b told)

-- ---- how it is written

-- the output and the error lines were written; or nothing was; or a device or the source failed,
-- and prefixes of both were
abbrev pub SaysSome : (Bool → List ℕ → List ℕ → Type 0) → Option (List ℕ) → Option (List ℕ)
    → Result Bool ToolError → Option (List ℕ) → Option (List ℕ) → Type 0
SaysSome IsSaid old heard result new after = MatchResult result
    (λ well. (said told : List ℕ) × IsSaid well said told × Appends old new said
    × Appends heard after told)
    (λ e. (Appends old new [] × Appends heard after [])
    ⊎ ((well : Bool) × (said more told others : List ℕ) × IsSaid well (said ++ more) (told ++ others)
    × Appends old new said × Appends heard after told))
