-- Look-ups in an index that anyone may have made (CARv2 specification, "Index").
use Rattle.std.specs.Prelude.{◌≡◌, ℕ, suc, zero, ◌+◌, ◌*◌, ◌/◌, ◌^◌, ◌<◌, ◌≤◌, ◌==◌, ◌&&◌, if◌then◌else◌, nat_lt, nat_le, Bool, true, false, List, length, take, drop, Option, None, Some, option_and_then, Result, IfOk, IfSome, MatchOption}
use Rattle.std.specs.Int.{w16, w32, w64}
use Rattle.std.specs.Ordering.{is_lt, nat_cmp}
use Rattle.std.specs.Cmp.Lexicographic.{slice_cmp}
use Rattle.files_index.specs.Places.{number_in}
use Rattle.files_index.specs.declared.find.Bucket.{Bucket}

-- if the bytes are known, the answer is that of `IsSo` on them; no source has 2 ^ 64 bytes
abbrev pub Looks : {A E : Type 0} → Option (List ℕ) → Result A E → (List ℕ → A → Type 0) → Type 0
Looks known result IsSo = IfSome known (λ b. length b < 2 ^ 64 → IfOk result (IsSo b))

-- ---- the entries of one width

-- the bucket of this width and length that begins at a place, and the place after it
abbrev pub bucket_of : ℕ → ℕ → ℕ → Option (Bucket × ℕ)
bucket_of begin width long = if nat_le 8 width && nat_lt (begin + long) (2 ^ 64)
    then Some (record { begin = begin; width = width; count = long / width }, begin + long)
    else None

-- the bucket whose head, a width and a length, is at a place, and the place after the bucket
abbrev pub bucket_at : List ℕ → ℕ → Option (Bucket × ℕ)
bucket_at b place = option_and_then (λ width. option_and_then (bucket_of (place + 12) width)
    (number_in w64 b (place + 4))) (number_in w32 b place)

-- the first bucket of this width among the next n
abbrev pub bucket_from : List ℕ → ℕ → ℕ → ℕ → Option Bucket
bucket_from b width zero place = None
bucket_from b width (suc n) place = option_and_then
    (λ f. if f.0.width == width then Some f.0 else bucket_from b width n f.1) (bucket_at b place)

-- the first bucket of this width, after the number of buckets
abbrev pub bucket_in : List ℕ → ℕ → ℕ → Option Bucket
bucket_in b width place = option_and_then (λ n. bucket_from b width n (place + 4)) (number_in w32 b place)

-- ---- the entries of one hash code

-- the place after the next n buckets
abbrev pub after_heads : List ℕ → ℕ → ℕ → Option ℕ
after_heads b zero place = Some place
after_heads b (suc n) place = option_and_then (λ f. after_heads b n f.1) (bucket_at b place)

-- the place after all buckets, after their number
abbrev pub after_buckets : List ℕ → ℕ → Option ℕ
after_buckets b place = option_and_then (λ n. after_heads b n (place + 4)) (number_in w32 b place)

-- the bucket of this width under the first of the next n hash codes that is this one
abbrev pub bucket_under_from : List ℕ → ℕ → ℕ → ℕ → ℕ → Option Bucket
bucket_under_from b code width zero place = None
bucket_under_from b code width (suc n) place = option_and_then
    (λ c. if c == code then bucket_in b width (place + 8)
    else option_and_then (bucket_under_from b code width n) (after_buckets b (place + 8)))
    (number_in w64 b place)

-- the bucket of this width under this hash code, after the number of hash codes
abbrev pub bucket_under : List ℕ → ℕ → ℕ → ℕ → Option Bucket
bucket_under b code width place =
    option_and_then (λ n. bucket_under_from b code width n (place + 4)) (number_in w32 b place)

-- ---- the index

-- the bucket in which the entries of a digest are, by the format of the index at the place: by
-- width only (the varint 0x0400), or by hash code and width (0x0401)
abbrev pub find_bucket : List ℕ → ℕ → ℕ → List ℕ → Option Bucket
find_bucket b index code digest = option_and_then
    (λ format. if format == 0x0880 then bucket_in b (length digest + 8) (index + 2)
    else if format == 0x0881 then bucket_under b code (length digest + 8) (index + 2) else None)
    (number_in w16 b index)

-- ---- an entry

-- where the entry with this number begins
abbrev pub entry_place : Bucket → ℕ → ℕ
entry_place bucket n = bucket.begin + n * bucket.width

-- the first bytes of the entry with this number, as many as the digest has
abbrev pub digest_in : List ℕ → Bucket → ℕ → ℕ → List ℕ
digest_in b bucket long n = take long (drop (entry_place bucket n) b)

-- whether the digest of the entry with this number is below this one
abbrev pub is_below : List ℕ → Bucket → List ℕ → ℕ → Bool
is_below b bucket digest n = is_lt (slice_cmp nat_cmp (digest_in b bucket (length digest) n) digest)

-- the entry before this number is below the digest, and the entry with this number is not: if the
-- digests ascend, n of them are below
pub record IsFirst (b : List ℕ) (bucket : Bucket) (digest : List ℕ) (n : ℕ) : Type 0 where
  pub within : n ≤ bucket.count
  pub before : (m : ℕ) → n ≡ suc m → is_below b bucket digest m ≡ true
  pub first : n < bucket.count → is_below b bucket digest n ≡ false

-- the bytes end within the digest of one of the entries
abbrev pub EndsWithin : List ℕ → Bucket → List ℕ → Type 0
EndsWithin b bucket digest = (n : ℕ) × (n < bucket.count)
    × (length b < entry_place bucket n + length digest)

-- the number of the first entry not below the digest; or the bytes end within an entry's digest
abbrev pub FindsFirst : Bucket → List ℕ → List ℕ → Option ℕ → Type 0
FindsFirst bucket digest b found = MatchOption found (EndsWithin b bucket digest) (IsFirst b bucket digest)

-- the entry with this number has the digest, and this offset
pub record IsEntryOf (b : List ℕ) (bucket : Bucket) (digest : List ℕ) (n place : ℕ) : Type 0 where
  pub within : n < bucket.count
  pub same : digest_in b bucket (length digest) n ≡ digest
  pub offset : number_in w64 b (entry_place bucket n + length digest) ≡ Some place

-- the offset of the entry with this number; or it has another digest, or one of over 64 bytes
abbrev pub FindsOffset : Bucket → List ℕ → ℕ → List ℕ → Option ℕ → Type 0
FindsOffset bucket digest n b found = MatchOption found
    (length digest ≤ 64 → (offset : ℕ) → ¬ IsEntryOf b bucket digest n offset)
    (IsEntryOf b bucket digest n)
