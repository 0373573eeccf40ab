-- What sorting the entries of a map into key order returns.
use Rattle.std.specs.Prelude.{◌≡◌, ◌≢◌, ℕ, ◌+◌, ◌<◌, Bool, true, false, List, [], ◌∷◌, ◌++◌, Option, Some, length, slice_index_or, IsPermutation, IsSortedBy}
use Rattle.std.specs.Ordering.{is_lt}
use Rattle.ipld_tree.specs.Key.{bytes_cmp}
use Rattle.ipld_tree.specs.Spelled.{spelled_head}
use Rattle.dagcbor_write.specs.Maps.{Texts}

-- the result is whether each key differs from the previous one
abbrev pub KeysDiffer : {A : Type 0} → List (List ℕ × A) → Bool → Type 0
KeysDiffer {A} es true = (k : ℕ) (d : List ℕ × A) → k + 1 < length es
    → (slice_index_or es k d).0 ≢ (slice_index_or es (k + 1) d).0
KeysDiffer {A} es false = (k : ℕ) × (k + 1 < length es)
    × ((d : List ℕ × A) → (slice_index_or es k d).0 ≡ (slice_index_or es (k + 1) d).0)

-- whether an entry's bytes, key and value together, come before another's
abbrev pub goes_before : Texts → Texts → Bool
goes_before d e = is_lt (bytes_cmp (d.0 ++ d.1) (e.0 ++ e.1))

-- the entries were sorted by their bytes; the result is whether each key differs from the previous
-- one
abbrev pub PutsInOrder : List Texts → List Texts → Bool → Type 0
PutsInOrder old new b = IsPermutation old new × IsSortedBy goes_before new × KeysDiffer new b

-- the head of a map of n entries, or nothing if the head was already written
abbrev pub head_rest : Bool → ℕ → Option (List ℕ)
head_rest false n = spelled_head 5 n
head_rest true n = Some []

-- the entries, one after the other
abbrev pub entries_bytes : List Texts → List ℕ
entries_bytes [] = []
entries_bytes (e ∷ es) = e.0 ++ (e.1 ++ entries_bytes es)
