-- The index at the end of a file of version 2 (CARv2 specification, "Index"): where the section of
-- each multihash begins.
use Rattle.std.specs.Prelude.{ℕ, ◌+◌, ◌*◌, ◌==◌, if◌then◌else◌, List, [], ◌∷◌, ◌++◌, length, flat_map}
use Rattle.std.specs.Int.{w32, w64, to_le_bytes}
use Rattle.std.specs.declared.cmp.Ordering.{Ordering}
use Rattle.std.specs.Ordering.{nat_cmp, on, then_cmp}
use Rattle.std.specs.Cmp.Lexicographic.{slice_cmp}

-- an entry: the code of a hash function, the digest, and the offset: how many bytes of the file of
-- version 1 come before the section
pub record EntryParts : Type 0 where
  pub hash_code : ℕ
  pub digest : List ℕ
  pub offset : ℕ

abbrev pub hash_code_of : EntryParts → ℕ
hash_code_of e = e.hash_code

-- how many bytes an entry takes in the index
abbrev pub width_of : EntryParts → ℕ
width_of e = length e.digest + 8

-- entries are sorted by hash code, then width, then the bytes of the digest, then offset
abbrev pub entry_cmp : EntryParts → EntryParts → Ordering
entry_cmp = then_cmp (on hash_code_of nat_cmp)
    (then_cmp (on (λ e. length e.digest) nat_cmp)
    (then_cmp (on (λ e. e.digest) (slice_cmp nat_cmp)) (on (λ e. e.offset) nat_cmp)))

-- a run: a key, and the entries with it, one after another
abbrev pub Run : Type 0
Run = ℕ × List EntryParts

-- an entry with this key, put before runs: it joins the first run, if that has the same key
abbrev pub before_runs : ℕ → EntryParts → List Run → List Run
before_runs key e [] = (key, e ∷ []) ∷ []
before_runs key e (r ∷ rs) =
    if r.0 == key then (key, e ∷ r.1) ∷ rs else (key, e ∷ []) ∷ (r ∷ rs)

-- the runs of entries, by a key
abbrev pub runs : (EntryParts → ℕ) → List EntryParts → List Run
runs key [] = []
runs key (e ∷ es) = before_runs (key e) e (runs key es)

-- an entry: its digest, and its offset
abbrev pub entry_bytes : EntryParts → List ℕ
entry_bytes e = e.digest ++ to_le_bytes w64 e.offset

-- a bucket: the width of its entries, their length in bytes, and the entries
abbrev pub bucket_bytes : Run → List ℕ
bucket_bytes r = to_le_bytes w32 r.0
    ++ (to_le_bytes w64 (r.0 * length r.1) ++ flat_map entry_bytes r.1)

-- the number of widths, and the bucket of each
abbrev pub buckets_bytes : List EntryParts → List ℕ
buckets_bytes es = to_le_bytes w32 (length (runs width_of es))
    ++ flat_map bucket_bytes (runs width_of es)

-- a hash code, and its entries
abbrev pub code_bytes : Run → List ℕ
code_bytes r = to_le_bytes w64 r.0 ++ buckets_bytes r.1

-- the number of hash codes, and the entries of each
abbrev pub codes_bytes : List EntryParts → List ℕ
codes_bytes es = to_le_bytes w32 (length (runs hash_code_of es))
    ++ flat_map code_bytes (runs hash_code_of es)

-- the index of sorted entries, by hash code and width: the varint 0x0401, and the entries
abbrev pub index_bytes : List EntryParts → List ℕ
index_bytes es = 0x81 ∷ (0x08 ∷ codes_bytes es)
