-- Pairs in another order have the same map.
use Rattle.std.proofs.Common.{◌≡◌, ℕ, List, [], ◌∷◌, map, Option, None, Some, Bool, true, false, cond, refl, sym, ap, ap₂, ◌∙◌, IsPermutation, IfSome, option_map, option_and_then}
use Rattle.std.proofs.lemmas.List.Sorted.{IsPermutation-map, IsPermutation-sym}
use Rattle.std.proofs.lemmas.Map.Keys.{IsDistinct-IsPermutation}
use Rattle.std.specs.Map.{keys_of}
use Rattle.ipld_tree.specs.Tree.{Tree, mapping, ordered_entries, repeats_key, map_tree, all_some, pair_of, entries_tree}
use Rattle.ipld_tree.proofs.Ordered.{AreDistinct, same_place, same_place_flips, ordered_moved, distinct_from_test, test_from_distinct}
use Rattle.dagcbor_write.specs.Pairwise.{Pairwise}
use Rattle.dagcbor_write.specs.Trees.{Pair}
use Rattle.dagcbor_write.proofs.Mapping.{beside}

abbrev pub Named : Type 0
Named = List ℕ × Tree

abbrev pub IsNamed : Named → Pair → Type 0
IsNamed n p = pair_of p ≡ Some n

abbrev before : Option Named → Option (List Named) → Option (List Named)
before o os = option_and_then (λ a. option_map (λ more. a ∷ more) os) o

names : (ps : List Pair) (ns : List Named) → Pairwise IsNamed ns ps → all_some (map pair_of ps) ≡ Some ns
names [] [] w = refl
names (p ∷ ps) (n ∷ ns) w = ap₂ before w.0 (names ps ns w.1)
names _ _ w = absurd w

pub names_given : (ps : List Pair) → IfSome (all_some (map pair_of ps)) (λ ns. Pairwise IsNamed ns ps)
names_given [] = tt
names_given (p ∷ ps) = by (pair_of p) refl (all_some (map pair_of ps)) (names_given ps)
  where
    by : (o : Option Named) → pair_of p ≡ o → (os : Option (List Named)) → IfSome os (λ ns. Pairwise IsNamed ns ps) → IfSome (before o os) (λ ns. Pairwise IsNamed ns (p ∷ ps))
    by None e os h = tt
    by (Some n) e None h = tt
    by (Some n) e (Some ns) h = (e, h)

stay_distinct : (ns ws : List Named) → IsPermutation ns ws → AreDistinct ns → AreDistinct ws
stay_distinct ns ws moved d = IsDistinct-IsPermutation same_place same_place_flips (keys_of ns) (keys_of ws) (IsPermutation-map (λ p. p.0) ns ws moved) d

map_moved : (ns ws : List Named) → IsPermutation ns ws → map_tree ns ≡ map_tree ws
map_moved ns ws moved = by (repeats_key ns) (repeats_key ws) refl refl
  where
    by : (b c : Bool) → repeats_key ns ≡ b → repeats_key ws ≡ c → cond b None (Some (mapping (ordered_entries ns))) ≡ cond c None (Some (mapping (ordered_entries ws)))
    by true true e f = refl
    by false false e f = ap (λ es. Some (mapping es)) (ordered_moved ns ws (distinct_from_test ns e) (distinct_from_test ws f) moved)
    by false true e f = let differ : true ≡ false = sym f ∙ test_from_distinct ws (stay_distinct ns ws moved (distinct_from_test ns e)) in absurd (cc differ)
    by true false e f = let differ : true ≡ false = sym e ∙ test_from_distinct ns (stay_distinct ws ns (IsPermutation-sym ns ws moved) (distinct_from_test ws f)) in absurd (cc differ)

-- the names of the pairs in another order
others : (ps qs : List Pair) (o : Option (List Named)) → all_some (map pair_of ps) ≡ o → IfSome o (λ ns. Pairwise IsNamed ns ps) → IsPermutation ps qs → IfSome o (λ ns. (ws : List Named) × IsPermutation ns ws × (all_some (map pair_of qs) ≡ Some ws))
others ps qs None e h moved = tt
others ps qs (Some ns) e h moved = let b = beside IsNamed ns ps qs moved h in (b.0, b.1, names qs b.0 b.2)

pub same_map : (ps qs : List Pair) → IsPermutation ps qs → entries_tree ps ≡ entries_tree qs
same_map ps qs moved =
    by (all_some (map pair_of ps)) (all_some (map pair_of qs)) refl (others ps qs _ refl (names_given ps) moved) (others qs ps _ refl (names_given qs) (IsPermutation-sym ps qs moved))
  where
    by : (o r : Option (List Named)) → all_some (map pair_of ps) ≡ o → IfSome o (λ ns. (ws : List Named) × IsPermutation ns ws × (r ≡ Some ws)) → IfSome r (λ ns. (ws : List Named) × IsPermutation ns ws × (o ≡ Some ws)) → option_and_then map_tree o ≡ option_and_then map_tree r
    by None None e h k = refl
    by None (Some ws) e h k = cc k.2
    by (Some ns) r e h k = map_moved ns h.0 h.1 ∙ ap (option_and_then map_tree) (sym h.2)
