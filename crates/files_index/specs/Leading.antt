-- Look-ups in an index of sorted entries.
use Rattle.std.specs.Prelude.{◌≡◌, ℕ, ◌+◌, ◌^◌, ◌<◌, ◌≤◌, List, ◌∷◌, ◌++◌, length, drop, Some}
use Rattle.std.specs.Prelude.{IsSorted}
use Rattle.std.specs.List.{AllByRecursion}
use Rattle.files_index.specs.Index.{EntryParts, width_of, entry_cmp, index_bytes}
use Rattle.files_index.specs.Lookup.{find_bucket, EndsWithin, IsFirst, IsEntryOf}
use Rattle.files_index.specs.declared.find.Bucket.{Bucket}

-- both entries have the same multihash
abbrev pub IsAlike : EntryParts → EntryParts → Type 0
IsAlike d e = (d.hash_code ≡ e.hash_code) × (d.digest ≡ e.digest)

-- the entry is in the list, after k others with its multihash
pub record StandsAmong (es : List EntryParts) (e : EntryParts) (k : ℕ) : Type 0 where
  pub before : List EntryParts
  pub same : List EntryParts
  pub following : List EntryParts
  pub is : es ≡ before ++ (same ++ (e ∷ following))
  pub others : AllByRecursion (λ d. ¬ IsAlike d e) before
  pub alike : AllByRecursion (λ d. IsAlike d e) same
  pub count : k ≡ length same

-- the numbers of the entry fit into the fields of an index
abbrev pub HasRoom : EntryParts → Type 0
HasRoom e = (e.hash_code < 2 ^ 64) × (width_of e < 2 ^ 32) × (e.offset < 2 ^ 64)

-- the index of these entries, which are sorted, is at this place
pub record IsIndexAt (b : List ℕ) (place : ℕ) (es : List EntryParts) : Type 0 where
  pub sorted : IsSorted entry_cmp es
  pub room : AllByRecursion HasRoom es
  pub few : length es < 2 ^ 32
  pub more : List ℕ
  pub there : drop place b ≡ index_bytes es ++ more
  pub fits : length b < 2 ^ 64

-- The entries of one multihash are found in their order, beginning with the first.
abbrev pub IndexLeads : Type 0
IndexLeads = (b : List ℕ) (index : ℕ) (es : List EntryParts) (e : EntryParts) (k : ℕ)
    → IsIndexAt b index es → StandsAmong es e k → (bucket : Bucket)
    × (find_bucket b index e.hash_code e.digest ≡ Some bucket) × ¬ EndsWithin b bucket e.digest
    × (bucket.count ≤ length es)
    × ((n : ℕ) → IsFirst b bucket e.digest n → IsEntryOf b bucket e.digest (n + k) e.offset
    × ((m : ℕ) → m < k → (place : ℕ) × IsEntryOf b bucket e.digest (n + m) place))
