-- Entries of a map of which only the keys are spelled: each key's spelling, and the value.
use Rattle.std.specs.Prelude.{◌≡◌, ℕ, Bool, List, [], ◌∷◌, ◌++◌, map, Option, Some, IsPermutation, is_none, codes, IsTrue, IsSortedBy}
use Rattle.std.specs.List.{list_any}
use Rattle.std.specs.Fmt.{◌++?◌}
use Rattle.std.specs.Ordering.{is_lt}
use Rattle.ipld_tree.specs.Key.{bytes_cmp}
use Rattle.ipld_tree.specs.Tree.{Tree}
use Rattle.ipld_tree.specs.Spelled.{spelled_tree}
use Rattle.dagcbor_write.specs.Maps.{HoldsKey}
use Rattle.dagcbor_write.specs.Order.{KeysDiffer}

-- the spelling of a well-formed key was appended to the entries, with its value
abbrev pub JoinsKeyed : {A : Type 0} → Option Tree → A → List (List ℕ × A) → List (List ℕ × A) → Type 0
JoinsKeyed key value old new = (k : List ℕ) × HoldsKey key (Some k)
    × (new ≡ old ++ (k, value) ∷ [])

-- whether an entry's key comes before another's, by its bytes
abbrev pub key_goes_before : {A : Type 0} → List ℕ × A → List ℕ × A → Bool
key_goes_before d e = is_lt (bytes_cmp d.0 e.0)

-- the entries were sorted by the bytes of their keys; the result is whether each key differs from
-- the previous one
abbrev pub PutsKeysInOrder : {A : Type 0} → List (List ℕ × A) → List (List ℕ × A) → Bool → Type 0
PutsKeysInOrder old new b = IsPermutation old new × IsSortedBy key_goes_before new
    × KeysDiffer new b

-- the trees of the values
abbrev pub value_trees : {A : Type 0} → (A → Option Tree) → List (List ℕ × A) → List (Option Tree)
value_trees tree = map (λ e. tree e.1)

-- the keys and the spellings of the values, in order
abbrev pub spelled_keyed : {A : Type 0} → (A → Option Tree) → List (List ℕ × A) → Option (List ℕ)
spelled_keyed tree [] = Some []
spelled_keyed tree (e ∷ es) = Some e.0 ++? (spelled_tree (tree e.1) ++? spelled_keyed tree es)

-- whether the value of an entry has no spelling
abbrev pub lacks_value : {A : Type 0} → (A → Option Tree) → List ℕ × A → Bool
lacks_value tree e = is_none (spelled_tree (tree e.1))

-- writing the entries was refused with this message, because a value has no spelling
abbrev pub RefusesKeyedValue : {A : Type 0} → (A → Option Tree) → List (List ℕ × A) → List ℕ → Type 0
RefusesKeyedValue tree es m = (m ≡ codes "Struct value cannot be serialized.")
    × IsTrue (list_any (lacks_value tree) es)
