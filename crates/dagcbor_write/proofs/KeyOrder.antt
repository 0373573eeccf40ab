-- Pairs of which only the keys are spelled: in the order of these spellings they are the map.
use Rattle.std.proofs.Common.{◌≡◌, ℕ, suc, ◌+◌, ◌<◌, drop, take, List, [], ◌∷◌, ◌++◌, length, get_or, map, Option, None, Some, Bool, true, false, Less, Result, Ok, Err, refl, sym, ap, ap₂, ◌∙◌, subst, arith, add-one, append-nil, drop-cons, IfSome, IsSomeAnd, OnOk, option_and_then, is_lt}
use Rattle.std.specs.Fmt.{◌++?◌}
use Rattle.ipld_tree.specs.Key.{bytes_cmp, key_cmp}
use Rattle.ipld_tree.specs.Tree.{Tree, text, IsTree, key_of, pair_of, all_some, map_tree, ordered_entries, repeats_key, entries_tree}
use Rattle.ipld_tree.specs.Spelled.{spelled, spelled_tree, spelled_head}
use Rattle.dagcbor_core.specs.declared.error.EncodeError.{EncodeError}
use Rattle.dagcbor_heads.specs.Written.{Written, Writes}
use Rattle.dagcbor_heads.proofs.Writing.{Written-but}
use Rattle.dagcbor_write.specs.Each.{AreTrees}
use Rattle.dagcbor_write.specs.Keyed.{JoinsKeyed, key_goes_before, PutsKeysInOrder, spelled_keyed, value_trees}
use Rattle.dagcbor_write.specs.Maps.{spelled_key}
use Rattle.dagcbor_write.specs.Pairwise.{Pairwise}
use Rattle.dagcbor_write.specs.Rows.{spelled_pairs, ArePairs, KeysRise, Rises}
use Rattle.dagcbor_write.specs.Trees.{Pair}
use Rattle.dagcbor_write.proofs.Lists.{AreTrees_next}
use Rattle.dagcbor_write.proofs.Parts.{part_opened}
use Rattle.dagcbor_write.proofs.Mapping.{pairwise_length, beside, follows, row_map, BeginsWithName, clash, repeats, tree_of}
use Rattle.dagcbor_write.proofs.Walks.{Named, IsNamed, names_given, same_map}

-- the entry is the pair, whose key is spelled
pub record IsKeyedBy {A : Type 0} (tree : A → Option Tree) (p : Pair) (e : List ℕ × A) : Type 0 where
  pub key : spelled_key p.0 ≡ Some e.0
  pub value : p.1 ≡ tree e.1
  pub good : IfSome p.0 IsTree

name_spelled : (o : Option Tree) (s : List ℕ) → spelled_key o ≡ Some s → IsSomeAnd (option_and_then key_of o) (λ k. spelled (text k) ≡ Some s)
name_spelled None s e = cc
name_spelled (Some (text k)) s e = e
name_spelled (Some _) s e = cc

abbrev name_or : Option Named → List ℕ
name_or None = []
name_or (Some n) = n.0

begins_with_name : (o v : Option Tree) (n : Named) (s : List ℕ) → pair_of (o, v) ≡ Some n → spelled_key o ≡ Some s → spelled (text n.0) ≡ Some s
begins_with_name None v n s e h = cc
begins_with_name (Some (text k)) None n s e h = cc
begins_with_name (Some (text k)) (Some t) n s e h = ap (λ l. spelled (text l)) (sym (ap name_or e)) ∙ h
begins_with_name (Some _) v n s e h = cc

module _ {A : Type 0} (tree : A → Option Tree) where
  abbrev AreKeyedBy : List Pair → List (List ℕ × A) → Type 0
  AreKeyedBy = Pairwise (IsKeyedBy tree)

  keyed_text : (ps : List Pair) (es : List (List ℕ × A)) → AreKeyedBy ps es → spelled_pairs ps ≡ spelled_keyed tree es
  keyed_text [] [] w = refl
  keyed_text (p ∷ ps) (e ∷ es) w = ap₂ (λ k x. k ++? x) w.0.key (ap₂ (λ v x. spelled_tree v ++? x) w.0.value (keyed_text ps es w.1))
  keyed_text _ _ w = absurd w

  keyed_good : (ps : List Pair) (es : List (List ℕ × A)) → AreKeyedBy ps es → AreTrees (value_trees tree es) → ArePairs ps
  keyed_good [] [] w g = tt
  keyed_good (p ∷ ps) (e ∷ es) w g =
      let P : Option Tree → Type 0 = λ o. IfSome o IsTree in
      (w.0.good, subst P (sym w.0.value) g.0, keyed_good ps es w.1 g.1)
  keyed_good _ _ w g = absurd w

  keyed_names : (ns : List Named) (ps : List Pair) (es : List (List ℕ × A)) → Pairwise IsNamed ns ps → AreKeyedBy ps es → Pairwise BeginsWithName ns es
  keyed_names [] [] [] n w = tt
  keyed_names [] [] (e ∷ es) n w = absurd w
  keyed_names [] (p ∷ ps) es n w = absurd n
  keyed_names (m ∷ ns) [] es n w = absurd n
  keyed_names (m ∷ ns) (p ∷ ps) [] n w = absurd w
  keyed_names (m ∷ ns) (p ∷ ps) (e ∷ es) n w = (begins_with_name p.0 p.1 m e.0 n.0 w.0.key, keyed_names ns ps es n.1 w.1)

  -- ---- entries in order

  -- no entry comes before the previous one, and their keys differ
  record AreInOrder (es : List (List ℕ × A)) : Type 0 where
    pub late : (k : ℕ) (d : List ℕ × A) → suc k < length es → key_goes_before (get_or es (suc k) d) (get_or es k d) ≡ false
    pub differ : (k : ℕ) (d : List ℕ × A) → suc k < length es → (get_or es k d).0 ≡ (get_or es (suc k) d).0 → ⊥

  others_in_order : (e : List ℕ × A) (es : List (List ℕ × A)) → AreInOrder (e ∷ es) → AreInOrder es
  others_in_order e es o = record { late = λ k d h. o.late (suc k) d (omega (arith, h)); differ = λ k d h. o.differ (suc k) d (omega (arith, h)) }

  next_rises : (k l : List ℕ) (e f : List ℕ × A) (es : List (List ℕ × A)) → spelled (text k) ≡ Some e.0 → spelled (text l) ≡ Some f.0 → AreInOrder (e ∷ f ∷ es) → key_cmp k l ≡ Less
  next_rises k l e f es h j o =
      let late : is_lt (bytes_cmp (f.0 ++ []) (e.0 ++ [])) ≡ false = ap₂ (λ x y. is_lt (bytes_cmp x y)) (append-nil f.0) (append-nil e.0) ∙ o.late 0 e (omega arith) in
      follows k l e.0 f.0 [] [] h j late (o.differ 0 e (omega arith))

  keys_rise : (k : List ℕ) (e : List ℕ × A) (ps : List Pair) (es : List (List ℕ × A)) → spelled (text k) ≡ Some e.0 → AreKeyedBy ps es → AreInOrder (e ∷ es) → KeysRise k ps
  keys_rise k e [] [] h w o = tt
  keys_rise k e [] (f ∷ es) h w o = absurd w
  keys_rise k e (p ∷ ps) [] h w o = absurd w
  keys_rise k e (p ∷ ps) (f ∷ es) h w o = by (option_and_then key_of p.0) (name_spelled p.0 f.0 w.0.key) (λ l j. keys_rise l f ps es j w.1 (others_in_order e (f ∷ es) o))
    where
      by : (q : Option (List ℕ)) → IsSomeAnd q (λ l. spelled (text l) ≡ Some f.0) → ((l : List ℕ) → spelled (text l) ≡ Some f.0 → KeysRise l ps) → IsSomeAnd q (λ l. (key_cmp k l ≡ Less) × KeysRise l ps)
      by None j more = absurd j
      by (Some l) j more = (next_rises k l e f es h j o, more l j)

  rises : (ps : List Pair) (es : List (List ℕ × A)) → AreKeyedBy ps es → AreInOrder es → Rises ps
  rises [] es w o = tt
  rises (p ∷ ps) [] w o = absurd w
  rises (p ∷ ps) (e ∷ es) w o = by (option_and_then key_of p.0) (name_spelled p.0 e.0 w.0.key)
    where
      by : (q : Option (List ℕ)) → IsSomeAnd q (λ l. spelled (text l) ≡ Some e.0) → IsSomeAnd q (λ l. KeysRise l ps)
      by None j = absurd j
      by (Some l) j = keys_rise l e ps es j w.1 o

  -- ---- the map of the pairs

  -- entries in the order of their keys are the map of the pairs
  pub record IsKeyedMap (ps : List Pair) (es : List (List ℕ × A)) : Type 0 where
    pub text : spelled_tree (entries_tree ps) ≡ spelled_head 5 (length es) ++? spelled_keyed tree es
    pub good : AreTrees (value_trees tree es) → IfSome (entries_tree ps) IsTree

  pub keyed_map : (ps : List Pair) (es fs : List (List ℕ × A)) → AreKeyedBy ps es → PutsKeysInOrder es fs true → IsKeyedMap ps fs
  keyed_map ps es fs w o =
      let moved = beside (IsKeyedBy tree) ps es fs o.0 w in
      let same = same_map ps moved.0 moved.1 in
      let order : AreInOrder fs = record { late = λ k d h. rw add-one at (o.1 k d (omega arith) (omega (arith, h))); differ = λ k d h e. o.2 k d (omega (arith, h)) (rw add-one e) } in
      let row = row_map moved.0 (length fs) (sym (pairwise_length (IsKeyedBy tree) moved.0 fs moved.2)) (rises moved.0 fs moved.2 order) in
      let P : Option Tree → Type 0 = λ t. IfSome t IsTree in
      record {
        text = ap spelled_tree same ∙ row.0 ∙ ap (λ x. spelled_head 5 (length fs) ++? x) (keyed_text moved.0 fs moved.2);
        good = λ g. subst P (sym same) (row.1 (keyed_good moved.0 fs moved.2 g));
      }

  -- if a key repeats, there is no map
  pub keyed_repeats : (ps : List Pair) (es fs : List (List ℕ × A)) → AreKeyedBy ps es → PutsKeysInOrder es fs false → spelled_tree (entries_tree ps) ≡ None
  keyed_repeats ps es fs w o =
      let moved = beside (IsKeyedBy tree) ps es fs o.0 w in
      ap spelled_tree (same_map ps moved.0 moved.1) ∙ by moved.0 moved.2 (all_some (map pair_of moved.0)) refl (names_given moved.0)
    where
      by : (qs : List Pair) → AreKeyedBy qs fs → (n : Option (List Named)) → all_some (map pair_of qs) ≡ n → IfSome n (λ ns. Pairwise IsNamed ns qs) → spelled_tree (entries_tree qs) ≡ None
      by qs v None is h = ap (λ x. spelled_tree (option_and_then map_tree x)) is
      by qs v (Some ns) is h =
          let twice = repeats (repeats_key ns) ns refl (clash ns fs o.2.0 (keyed_names ns qs fs h v) (omega (arith, o.2.1)) (λ d. rw add-one at (o.2.2 d))) in
          ap spelled_tree (tree_of qs ns (ordered_entries ns) true is twice refl)

-- a key that was taken with its value is the pair of their trees
pub keyed_pair : {A : Type 0} (tree : A → Option Tree) (o : Option Tree) (x : A) (old new : List (List ℕ × A)) → (j : JoinsKeyed o x old new) → IsKeyedBy tree (o, tree x) (j.0, x)
keyed_pair tree o x old new j = record { key = j.1.0; value = refl; good = j.1.1 }

-- ---- for the end of a map

module _ {A : Type 0} (tree : A → Option Tree) (ps : List Pair) (es fs : List (List ℕ × A)) (b : Bool) (w : Pairwise (IsKeyedBy tree) ps es) (o : PutsKeysInOrder es fs b) where
  in_order : (c : Bool) → b ≡ c → PutsKeysInOrder es fs c
  in_order c e = subst (λ x. PutsKeysInOrder es fs x) e o

  pub keyed_written : {T E : Type 0} (s t : Written) (r : Result T (EncodeError E)) → b ≡ true → Writes (spelled_head 5 (length fs) ++? spelled_keyed tree fs) s t r → Writes (spelled_tree (entries_tree ps)) s t r
  keyed_written s t r e h = subst (λ x. Writes x s t r) (sym (keyed_map tree ps es fs w (in_order true e)).text) h

  pub keyed_well_formed : {T E : Type 0} (r : Result T E) → b ≡ true → OnOk r (AreTrees (value_trees tree fs)) → OnOk r (IfSome (entries_tree ps) IsTree)
  keyed_well_formed (Ok x) e h = (keyed_map tree ps es fs w (in_order true e)).good h
  keyed_well_formed (Err d) e h = tt

  pub keyed_none : b ≡ false → spelled_tree (entries_tree ps) ≡ None
  keyed_none e = keyed_repeats tree ps es fs w (in_order false e)

-- ---- entries that are written one after another

module _ {A : Type 0} (tree : A → Option Tree) (es : List (List ℕ × A)) where
  -- the first of the entries that are left
  pub at_keyed : (i : ℕ) (key : List ℕ) (value : A) → i < length es → ((d : List ℕ × A) → key ≡ (get_or es i d).0) → ((d : List ℕ × A) → value ≡ (get_or es i d).1) → (whole : Option (List ℕ)) (s t : Written) → Written-but whole (spelled_keyed tree (drop i es) ∷ []) s t
      → Written-but whole (Some key ∷ (spelled_tree (tree value) ++? spelled_keyed tree (drop (i + 1) es)) ∷ []) s t
  at_keyed i key value h is_key is_value whole s t w =
      let d : List ℕ × A = ([], value) in
      let begins : drop i es ≡ get_or es i d ∷ drop (i + 1) es = rw add-one (drop-cons es i d h) in
      let first : spelled_keyed tree (drop i es) ≡ Some key ++? (spelled_tree (tree value) ++? spelled_keyed tree (drop (i + 1) es)) = ap (spelled_keyed tree) begins ∙ ap₂ (λ k v. Some k ++? (spelled_tree (tree v) ++? spelled_keyed tree (drop (i + 1) es))) (sym (is_key d)) (sym (is_value d)) in
      part_opened _ _ first w

  pub values_next : (i : ℕ) (key : List ℕ) (value : A) → i < length es → ((d : List ℕ × A) → key ≡ (get_or es i d).0) → ((d : List ℕ × A) → value ≡ (get_or es i d).1) → AreTrees (value_trees tree (take i es)) → IfSome (tree value) IsTree → AreTrees (value_trees tree (take (i + 1) es))
  values_next i key value h is_key is_value all one = AreTrees_next (λ e. tree e.1) es i (key, value) h (ap₂ (λ k v. (k, v)) (is_key (key, value)) (is_value (key, value))) all one
