-- The entries of an index that anyone may have made (CARv2 specification, "Index"): the formats
-- 0x0400 (IndexSorted) and 0x0401 (MultihashIndexSorted). It ends with its last entry; bytes after
-- that are ignored.
use Rattle.std.specs.Prelude.{◌≡◌, ℕ, zero, suc, ◌+◌, ◌-◌, ◌/◌, ◌%◌, ◌==◌, ◌||◌, Bool, true, not, if◌then◌else◌, nat_lt, nat_le, bytes_eq, List, [], ◌∷◌, ◌++◌, length, take, drop, Option, None, Some, Result, Ok, Err, IfSome}
use Rattle.std.specs.Bool.{⊤}
use Rattle.std.specs.Int.{Width, w32, w64, byte_len, from_le_bytes}
use Rattle.files_index.specs.Index.{EntryParts}
use Rattle.files_index.specs.declared.entries.Format.{Format}
use Rattle.files_index.specs.declared.entries.Format.TheVariants.{ByWidth, ByMultihash}
use Rattle.files_index.specs.declared.entries.IndexFault.{IndexFault}
use Rattle.files_index.specs.declared.entries.IndexFault.TheVariants as faults
use Rattle.files_index.specs.declared.entries.Listing.{Listing}
use Rattle.files_index.specs.declared.entries.IndexError.{IndexError}
use Rattle.files_index.specs.declared.entries.IndexError.TheVariants as errors

-- ---- parts

-- what was taken of bytes: entries, the hash code or width of the last part, and the bytes after
pub record Taken : Type 0 where
  pub entries : List EntryParts
  pub last : Option ℕ
  pub rest : List ℕ

-- what bytes hold, or why they are not an index
abbrev pub Found : Type 0
Found = Result Taken IndexFault

-- a part of an index, given the hash code or width of the part before it, if there is one
abbrev pub Part : Type 0
Part = Option ℕ → List ℕ → Found

-- these entries, and then those that were found
abbrev pub joined : List EntryParts → Found → Found
joined es (Ok t) = Ok (record { entries = es ++ t.entries; last = t.last; rest = t.rest })
joined es (Err e) = Err e

-- what was taken, and then the part after it
abbrev pub and_then : Found → (Option ℕ → List ℕ → Found) → Found
and_then (Ok t) next = joined t.entries (next t.last t.rest)
and_then (Err e) next = Err e

-- n parts, each after the one before
abbrev pub times : ℕ → Part → Part
times zero part last b = Ok (record { entries = []; last = last; rest = b })
times (suc n) part last b = and_then (part last b) (times n part)

-- what was taken is a part with this hash code or width
abbrev pub keyed : ℕ → Found → Found
keyed key (Ok t) = Ok (record { entries = t.entries; last = Some key; rest = t.rest })
keyed key (Err e) = Err e

-- the key is greater than the one before it: hash codes ascend, and widths under one hash code
abbrev pub rises : Option ℕ → ℕ → Bool
rises None key = true
rises (Some last) key = nat_lt last key

-- the little-endian number at the front, and then the part after it; or the bytes end before
abbrev pub with_number : Width → List ℕ → (ℕ → List ℕ → Found) → Found
with_number w b next = if nat_le (byte_len w) (length b)
    then next (from_le_bytes w (take (byte_len w) b)) (drop (byte_len w) b) else Err faults.Truncated

-- ---- the index

-- the entry with a digest of `size` bytes at the front, and then its offset
abbrev pub entry_in : ℕ → ℕ → List ℕ → EntryParts
entry_in code size b = record {
  hash_code = code;
  digest = take size b;
  offset = from_le_bytes w64 (take 8 (drop size b));
}

-- one entry, with a digest of `size` bytes
abbrev pub entry : ℕ → ℕ → Part
entry code size last b = if nat_le (size + 8) (length b)
    then Ok (record { entries = entry_in code size b ∷ []; last = last; rest = drop (size + 8) b })
    else Err faults.Truncated

-- the entries of a bucket of this width, which is `size` bytes long
abbrev pub bucket_of : ℕ → Option ℕ → ℕ → ℕ → List ℕ → Found
bucket_of code last width size b =
    if nat_lt width 8 || nat_lt 72 width then Err faults.Width
    else (if not (rises last width) then Err faults.Order
    else (if not (size % width == 0) then Err faults.Length
    else keyed width (times (size / width) (entry code (width - 8)) None b)))

-- a bucket: a width, a length in bytes, and the entries
abbrev pub bucket : ℕ → Part
bucket code last b =
    with_number w32 b (λ width c. with_number w64 c (λ size d. bucket_of code last width size d))

-- the number of buckets, and then the buckets
abbrev pub buckets : ℕ → List ℕ → Found
buckets code b = with_number w32 b (λ count c. times count (bucket code) None c)

-- the entries of this hash code, which must be greater than the one before it
abbrev pub code_of : Option ℕ → ℕ → List ℕ → Found
code_of last code b = if not (rises last code) then Err faults.Order else keyed code (buckets code b)

-- a hash code, and its entries
abbrev pub code_part : Part
code_part last b = with_number w64 b (λ code c. code_of last code c)

-- the number of hash codes, and then each with its entries
abbrev pub codes_part : List ℕ → Found
codes_part b = with_number w32 b (λ count c. times count code_part None c)

-- the entries that were found, with their format
abbrev pub listing : Format → Found → Result (Format × List EntryParts) IndexFault
listing format (Ok t) = Ok (format, t.entries)
listing format (Err e) = Err e

-- the index after the two bytes of its format; in 0x0400 (IndexSorted) each hash code is 0
abbrev pub index_of : List ℕ → List ℕ → Result (Format × List EntryParts) IndexFault
index_of format b = if bytes_eq format (0x80 ∷ 0x08 ∷ []) then listing ByWidth (buckets 0 b)
    else (if bytes_eq format (0x81 ∷ 0x08 ∷ []) then listing ByMultihash (codes_part b)
    else Err faults.UnknownFormat)

-- The entries of the index at the front of these bytes, in order; or why there is none.
abbrev pub index_entries : List ℕ → Result (Format × List EntryParts) IndexFault
index_entries b = if nat_le 2 (length b) then index_of (take 2 b) (drop 2 b) else Err faults.Truncated

-- ---- reading them

-- the buffer was filled with the first bytes, and the others are left; or the bytes end before
abbrev pub Pulls : {A : Type 0} → Option (List ℕ) → Result A IndexError → List ℕ → Option (List ℕ) → Type 0
Pulls known (Ok x) room left = IfSome known (λ b. (rest : List ℕ) × (b ≡ room ++ rest) × (left ≡ Some rest))
Pulls known (Err (errors.Fault e)) room left = IfSome known (λ b. (nat_le (length room) (length b) ≡ Bool.false) × (e ≡ faults.Truncated))
Pulls known (Err errors.Read) room left = ⊤
Pulls known (Err errors.OutOfMemory) room left = ⊤

-- the number at the front was taken; or the bytes end before
abbrev pub PullsNumber : Width → Option (List ℕ) → Result ℕ IndexError → Option (List ℕ) → Type 0
PullsNumber w known (Ok n) left = IfSome known (λ b. (nat_le (byte_len w) (length b) ≡ true)
    × (n ≡ from_le_bytes w (take (byte_len w) b)) × (left ≡ Some (drop (byte_len w) b)))
PullsNumber w known (Err (errors.Fault e)) left = IfSome known (λ b. (nat_le (byte_len w) (length b) ≡ Bool.false) × (e ≡ faults.Truncated))
PullsNumber w known (Err errors.Read) left = ⊤
PullsNumber w known (Err errors.OutOfMemory) left = ⊤

-- the entries that were found were appended, and the bytes after them are
-- left; or the error says why nothing was found
abbrev pub Lists : {A : Type 0} → (A → Option ℕ → Type 0) → Found → List EntryParts → Result A IndexError → List EntryParts → Option (List ℕ) → Type 0
Lists IsLast found old (Ok x) new left = (t : Taken) × (found ≡ Ok t) × (new ≡ old ++ t.entries) × (left ≡ Some t.rest) × IsLast x t.last
Lists IsLast found old (Err (errors.Fault e)) new left = found ≡ Err e
Lists IsLast found old (Err errors.Read) new left = ⊤
Lists IsLast found old (Err errors.OutOfMemory) new left = ⊤

-- no part had a hash code or a width
abbrev pub no_last : {A : Type 0} → A → Option ℕ → Type 0
no_last x last = last ≡ None

-- the last part had any hash code or width, or none
abbrev pub any_last : {A : Type 0} → A → Option ℕ → Type 0
any_last x last = ⊤

-- the last part had this hash code or width
abbrev pub is_last : ℕ → Option ℕ → Type 0
is_last key last = last ≡ Some key

-- the index that was read is the one the bytes hold; or the error says why they hold none
abbrev pub IsRead : Result (Format × List EntryParts) IndexFault → Result Listing IndexError → Type 0
IsRead found (Ok l) = found ≡ Ok (l.format, l.entries.items)
IsRead found (Err (errors.Fault e)) = found ≡ Err e
IsRead found (Err errors.Read) = ⊤
IsRead found (Err errors.OutOfMemory) = ⊤
