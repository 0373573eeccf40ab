-- A row of pairs: its spelling, whether its keys rise, and in which order it is written.
use Rattle.std.specs.Prelude.{◌≡◌, ℕ, suc, ◌<◌, Bool, true, ◌&&◌, List, [], ◌∷◌, ◌++◌, length, map, slice_index_or, IsPermutation, Option, None, Some, option_and_then, option_map, IfSome, IsSomeAnd, ⊤, All}
use Rattle.std.proofs.Common.{refl, sym, ap, ◌∙◌, append_assoc}
use Rattle.std.specs.Borrow.{Bor}
use Rattle.std.specs.Fmt.{◌++?◌}
use Rattle.std.specs.declared.cmp.Ordering.TheVariants.{Less}
use Rattle.ipld_tree.specs.Key.{key_cmp, comes_before}
use Rattle.ipld_tree.specs.Tree.{Tree, IsTree, text, key_of}
use Rattle.ipld_tree.specs.Spelled.{spelled_tree}
use Rattle.dagcbor_write.specs.declared.places.Place.{Place}
use Rattle.dagcbor_write.specs.Trees.{Pair, optional}
use Rattle.dagcbor_write.specs.Maps.{spelled_key}

-- the spellings of the keys and values, one after the other
abbrev pub spelled_pairs : List Pair → Option (List ℕ)
spelled_pairs [] = Some []
spelled_pairs (p ∷ ps) = spelled_key p.0 ++? (spelled_tree p.1 ++? spelled_pairs ps)

-- each key and each value is well-formed
abbrev pub ArePairs : List Pair → Type 0
ArePairs [] = ⊤
ArePairs (p ∷ ps) = IfSome p.0 IsTree × IfSome p.1 IsTree × ArePairs ps

-- each key comes after the previous one in key order, and the first key after `last`
abbrev pub KeysRise : List ℕ → List Pair → Type 0
KeysRise last [] = ⊤
KeysRise last (p ∷ ps) = IsSomeAnd (option_and_then key_of p.0)
    (λ k. (key_cmp last k ≡ Less) × KeysRise k ps)

-- the same, and `end` is the last key, or `last` if there are no pairs
abbrev pub KeysRiseTo : List ℕ → List Pair → List ℕ → Type 0
KeysRiseTo last [] end = last ≡ end
KeysRiseTo last (p ∷ ps) end = IsSomeAnd (option_and_then key_of p.0)
    (λ k. (key_cmp last k ≡ Less) × KeysRiseTo k ps end)

-- each key comes after the previous one in key order
abbrev pub Rises : List Pair → Type 0
Rises [] = ⊤
Rises (p ∷ ps) = IsSomeAnd (option_and_then key_of p.0) (λ k. KeysRise k ps)

-- ---- rows after rows

-- an optional field before others is that field alone, with the others appended
pub optional_joins : {A : Type 0} (name : List ℕ) (tree : A → Option Tree) (o : Option A)
    (others : List Pair) → optional name tree o others ≡ optional name tree o [] ++ others
optional_joins name tree None others = refl
optional_joins name tree (Some x) others = refl

-- a row and a second one before others are both rows, with the others appended
pub rows_join : (ps : List Pair) (before : List Pair → List Pair)
    → ((others : List Pair) → before others ≡ ps ++ others)
    → (qs : List Pair) (second : List Pair → List Pair)
    → ((others : List Pair) → second others ≡ qs ++ others)
    → (others : List Pair) → before (second others) ≡ before qs ++ others
rows_join ps before first qs second both others =
    ap before (both others) ∙ first (qs ++ others)
    ∙ sym (append_assoc ps qs others) ∙ ap (λ row. row ++ others) (sym (first qs))

-- ---- places

-- the pair at this place, or a pair without a key if there is none at this place
abbrev pub pair_at : List Pair → ℕ → Pair
pair_at ps i = slice_index_or ps i (None, None)

-- the spellings of the key and of the value
abbrev pub spelled_pair : Pair → Option (List ℕ)
spelled_pair p = spelled_key p.0 ++? spelled_tree p.1

-- the key and the value are well-formed
abbrev pub IsPair : Pair → Type 0
IsPair p = IfSome p.0 IsTree × IfSome p.1 IsTree

-- these are the names of the pairs, with their places, counted from i
abbrev pub ArePlaces : ℕ → List Pair → List Place → Type 0
ArePlaces i [] [] = ⊤
ArePlaces i [] (e ∷ es) = ⊥
ArePlaces i (p ∷ ps) [] = ⊥
ArePlaces i (p ∷ ps) (e ∷ es) = (p.0 ≡ Some (text e.name.now)) × (e.at ≡ i)
    × ArePlaces (suc i) ps es

-- the names and places of the pairs were appended to the others
abbrev pub ListsPlaces : List Pair → List Place → List Place → Type 0
ListsPlaces ps old new = (more : List Place) × ArePlaces (length old) ps more × (new ≡ old ++ more)

-- whether each name comes after the previous one in key order, and the first name after `last`
abbrev pub names_rise : List ℕ → List Place → Bool
names_rise last [] = true
names_rise last (e ∷ es) = comes_before last e.name.now && names_rise e.name.now es

-- the pairs in their own order, or those at these places
abbrev pub in_order : List Pair → Option (List Place) → List Pair
in_order ps None = ps
in_order ps (Some es) = map (λ e. pair_at ps e.at) es

-- the places that are lent, if any are
abbrev pub places_of : Option (Bor (List Place)) → Option (List Place)
places_of order = option_map (λ places. places.now) order

-- there is a pair at each of the places
abbrev pub HasPlaces : List Pair → Option (List Place) → Type 0
HasPlaces ps order = IfSome order (All (λ e. e.at < length ps))

-- the order contains all of the pairs, and their keys rise
pub record IsKeyOrder (ps : List Pair) (order : Option (List Place)) : Type 0 where
  pub places : HasPlaces ps order
  pub all : IsPermutation ps (in_order ps order)
  pub rise : KeysRise [] (in_order ps order)
