-- The map of pairs, by the entries that spell them.
use Rattle.std.proofs.Common.{◌≡◌, ◌≢◌, ℕ, zero, suc, ◌^◌, ◌<◌, List, [], ◌∷◌, ◌++◌, length, get_or, set, map, Option, None, Some, Bool, true, false, cond, Less, Equal, refl, sym, ap, ap₂, ◌∙◌, subst, arith, add-one, IsPermutation, is_eq, IsUtf8, IfSome, IsSomeAnd, IsTrue, OnOk, Result, option_map, option_and_then, swap, is_lt}
use Rattle.std.proofs.lemmas.List.Sorted.{IsPermutation-keeps, IsPermutation-refl, IsPermutation-trans, IsPermutation-swap, IsPermutation-map}
use Rattle.std.proofs.lemmas.Map.Keys.{IsDistinct-IsPermutation}
use Rattle.std.specs.Fmt.{◌++?◌}
use Rattle.std.specs.List.{AllByRecursion, IsDistinct}
use Rattle.std.specs.List.Sorted.{IsStrictlySortedBy}
use Rattle.std.specs.Map.{keys_of}
use Rattle.ipld_tree.specs.Key.{bytes_cmp, key_cmp}
use Rattle.ipld_tree.specs.Tree.{Tree, text, mapping, Entries, entry, IsTree, key_of, entries_of, ordered_entries, repeats_key, map_tree, all_some, pair_of, entries_tree}
use Rattle.ipld_tree.specs.Spelling.{text_spelling, entry_count}
use Rattle.ipld_tree.specs.Spelled.{spelled, spelled_entries, spelled_tree, spelled_head}
use Rattle.ipld_tree.proofs.KeyOrder.{key_order, same_key}
use Rattle.ipld_tree.proofs.Unique.{payload, spelling_unique}
use Rattle.ipld_tree.proofs.Ordered.{key_cmp_total, key_cmp_same, after_not_before, AreDistinct, IsSortedList, same_place, same_place_flips, ordered_by_sort, distinct_from_test, test_from_distinct}
use Rattle.ipld_tree.proofs.Spelled.{spelled_is}
use Rattle.ipld_tree.proofs.WellFormed.{EachPair, IsGoodPair, are_entries}
use Rattle.dagcbor_heads.specs.Written.{Written, Writes}
use Rattle.dagcbor_heads.proofs.Writing.{append_None}
use Rattle.dagcbor_core.specs.declared.error.EncodeError.{EncodeError}
use Rattle.dagcbor_write.specs.Pairwise.{Pairwise}
use Rattle.dagcbor_write.proofs.Lists.{OnOk_of}
use Rattle.dagcbor_write.specs.Trees.{Pair}
use Rattle.dagcbor_write.specs.Gathering.{AppendsTo}
use Rattle.dagcbor_write.specs.Rows.{spelled_pairs, ArePairs, KeysRise, Rises}
use Rattle.dagcbor_write.specs.Maps.{Texts, spelled_key, AreSpellingsOf, entries_text, map_rest, RepeatsKey}
use Rattle.dagcbor_write.specs.Order.{head_rest, entries_bytes, goes_before, PutsInOrder}

abbrev Named : Type 0
Named = List ℕ × Tree

-- the entry is the spelling of a name and a tree
record IsSpelledBy (p : Named) (e : Texts) : Type 0 where
  pub key : spelled (text p.0) ≡ Some e.0
  pub value : spelled p.1 ≡ Some e.1
  pub good : IsUtf8 p.0 × IsTree p.1

-- ---- two lists, place by place

module _ {A B : Type 0} (R : A → B → Type 0) where
  pairwise_at : (xs : List A) (ys : List B) (i : ℕ) (a : A) (b : B) → i < length xs → Pairwise R xs ys → R (get_or xs i a) (get_or ys i b)
  pairwise_at [] ys i a b h p = absurd (omega (arith, h))
  pairwise_at (x ∷ xs) [] i a b h p = absurd p
  pairwise_at (x ∷ xs) (y ∷ ys) zero a b h p = p.0
  pairwise_at (x ∷ xs) (y ∷ ys) (suc i) a b h p = pairwise_at xs ys i a b (omega (arith, h)) p.1

  pairwise_set : (xs : List A) (ys : List B) (i : ℕ) (a : A) (b : B) → R a b → Pairwise R xs ys → Pairwise R (set xs i a) (set ys i b)
  pairwise_set [] [] i a b r p = tt
  pairwise_set (x ∷ xs) (y ∷ ys) zero a b r p = (r, p.1)
  pairwise_set (x ∷ xs) (y ∷ ys) (suc i) a b r p = (p.0, pairwise_set xs ys i a b r p.1)
  pairwise_set _ _ i a b r p = absurd p

  pub pairwise_length : (xs : List A) (ys : List B) → Pairwise R xs ys → length xs ≡ length ys
  pairwise_length [] [] p = refl
  pairwise_length (x ∷ xs) (y ∷ ys) p = ap suc (pairwise_length xs ys p.1)
  pairwise_length _ _ p = absurd p

  pairwise_swap : (xs : List A) (ys : List B) (i j : ℕ) → i < length ys → j < length ys → Pairwise R xs ys → Pairwise R (swap xs i j) (swap ys i j)
  pairwise_swap [] [] i j h k p = tt
  pairwise_swap (x ∷ xs) (y ∷ ys) i j h k p =
      let n = pairwise_length (x ∷ xs) (y ∷ ys) p in
      let ati = pairwise_at (x ∷ xs) (y ∷ ys) i x y (omega (arith, h, n)) p in
      let atj = pairwise_at (x ∷ xs) (y ∷ ys) j x y (omega (arith, k, n)) p in
      pairwise_set (set (x ∷ xs) i (get_or (x ∷ xs) j x)) (set (y ∷ ys) i (get_or (y ∷ ys) j y)) j (get_or (x ∷ xs) i x) (get_or (y ∷ ys) i y) ati
      (pairwise_set (x ∷ xs) (y ∷ ys) i (get_or (x ∷ xs) j x) (get_or (y ∷ ys) j y) atj p)
  pairwise_swap _ _ i j h k p = absurd p

  pub pairwise_push : (xs : List A) (ys : List B) (x : A) (y : B) → Pairwise R xs ys → R x y → Pairwise R (xs ++ x ∷ []) (ys ++ y ∷ [])
  pairwise_push [] [] x y p r = (r, tt)
  pairwise_push (w ∷ xs) (z ∷ ys) x y p r = (p.0, pairwise_push xs ys x y p.1 r)
  pairwise_push _ _ x y p r = absurd p

  -- the list beside a list whose elements change places
  pub beside : (xs : List A) (ys zs : List B) → IsPermutation ys zs → Pairwise R xs ys → (ws : List A) × IsPermutation xs ws × Pairwise R ws zs
  beside xs ys zs moved p =
      IsPermutation-keeps ys (λ l. (ws : List A) × IsPermutation xs ws × Pairwise R ws l) (xs, IsPermutation-refl xs, p)
      (λ l i j h k q. let n = pairwise_length q.0 l q.2 in (swap q.0 i j, IsPermutation-trans xs q.0 (swap q.0 i j) q.1 (IsPermutation-swap q.0 (swap q.0 i j) i j (omega (arith, h, n)) (omega (arith, k, n)) refl), pairwise_swap q.0 l i j h k q.2))
      zs moved

-- ---- the pairs that have entries

one : (k v : Option Tree) (e : Texts) → spelled_key k ≡ Some e.0 → spelled_tree v ≡ Some e.1 → IfSome k IsTree → IfSome v IsTree → (q : Named) × (pair_of (k, v) ≡ Some q) × IsSpelledBy q e
one None v e h j g w = cc
one (Some (text s)) None e h j g w = cc
one (Some (text s)) (Some t) e h j g w = ((s, t), refl, record { key = h; value = j; good = (g, w) })
one (Some _) v e h j g w = cc

joins : (o : Option Named) (os : Option (List Named)) (q : Named) (qs : List Named) → o ≡ Some q → os ≡ Some qs → option_and_then (λ a. option_map (λ more. a ∷ more) os) o ≡ Some (q ∷ qs)
joins o os q qs e f = ap₂ (λ x y. option_and_then (λ a. option_map (λ more. a ∷ more) y) x) e f

pairs_named : (ps : List Pair) (es : List Texts) → AreSpellingsOf ps es → (qs : List Named) × (all_some (map pair_of ps) ≡ Some qs) × Pairwise IsSpelledBy qs es
pairs_named [] [] p = ([], refl, tt)
pairs_named [] (e ∷ es) p = absurd p
pairs_named (p ∷ ps) [] h = absurd h
pairs_named (p ∷ ps) (e ∷ es) h =
    let first = one p.0 p.1 e h.0.key h.0.value h.0.good_key h.0.good_value in
    let more = pairs_named ps es h.1 in
    (first.0 ∷ more.0, joins (pair_of p) (all_some (map pair_of ps)) first.0 more.0 first.1 more.1, (first.2, more.2))

-- ---- entries in the order of their bytes are in the key order of their names

fits : (k s : List ℕ) → spelled (text k) ≡ Some s → (length k < 2 ^ 64) × (s ≡ text_spelling k)
fits k s e = (spelled_is (text k) s).0 e

same_name : (k l s t : List ℕ) → spelled (text k) ≡ Some s → spelled (text l) ≡ Some t → k ≡ l → s ≡ t
same_name k l s t h j same = (fits k s h).1 ∙ ap text_spelling same ∙ sym (fits l t j).1

same_text : (k l s t : List ℕ) → spelled (text k) ≡ Some s → spelled (text l) ≡ Some t → s ≡ t → k ≡ l
same_text k l s t h j same =
    let a = fits k s h in
    let b = fits l t j in
    ap payload (spelling_unique (text k) (text l) [] [] a.0 b.0 (ap (λ x. x ++ []) (sym a.1 ∙ same ∙ b.1))).0

-- spelled keys that are in the order of their bytes, whatever is after them, and differ
pub follows : (k l s t x y : List ℕ) → spelled (text k) ≡ Some s → spelled (text l) ≡ Some t → is_lt (bytes_cmp (t ++ y) (s ++ x)) ≡ false → (s ≡ t → ⊥) → key_cmp k l ≡ Less
follows k l s t x y h j late differ =
    let a = fits k s h in
    let b = fits l t j in
    let apart : l ≢ k = λ same. differ (sym (same_name l k t s j h same)) in
    let as-keys : bytes_cmp (t ++ y) (s ++ x) ≡ key_cmp l k = ap₂ (λ u v. bytes_cmp (u ++ y) (v ++ x)) b.1 a.1 ∙ key_order l k y x b.0 a.0 apart in
    after_not_before l k (sym (ap is_lt as-keys) ∙ late) (λ same. apart (same_key l k same))

below_all : (p q : List ℕ) (ks : List (List ℕ)) → key_cmp p q ≡ Less → AllByRecursion (λ y. key_cmp q y ≡ Less) ks → AllByRecursion (λ y. key_cmp p y ≡ Less) ks
below_all p q [] h r = tt
below_all p q (k ∷ ks) h r = (key_cmp_total.trans p q k h r.0, below_all p q ks h r.1)

sorted_names : (qs : List Named) (fs : List Texts) → Pairwise IsSpelledBy qs fs → ((k : ℕ) (d : Texts) → suc k < length fs → goes_before (get_or fs (suc k) d) (get_or fs k d) ≡ false) → ((k : ℕ) (d : Texts) → suc k < length fs → (get_or fs k d).0 ≡ (get_or fs (suc k) d).0 → ⊥) → IsSortedList qs
unfolding IsStrictlySortedBy
sorted_names [] [] w s n = tt
sorted_names (q ∷ []) (f ∷ []) w s n = (tt, tt)
sorted_names (q ∷ []) (f ∷ g ∷ fs) w s n = absurd w.1
sorted_names (q ∷ p ∷ qs) (f ∷ []) w s n = absurd w.1
sorted_names (q ∷ p ∷ qs) (f ∷ g ∷ fs) w s n =
    let first = follows q.0 p.0 f.0 g.0 f.1 g.1 w.0.key w.1.0.key (s 0 f (omega arith)) (n 0 f (omega arith)) in
    let more = sorted_names (p ∷ qs) (g ∷ fs) w.1 (λ k d h. s (suc k) d (omega (arith, h))) (λ k d h. n (suc k) d (omega (arith, h))) in
    ((first, below_all q.0 p.0 (keys_of qs) first more.0), more)
sorted_names _ _ w s n = absurd w

-- ---- the text of the entries

pub Some_both : (a b : List ℕ) (x y : Option (List ℕ)) → x ≡ Some a → y ≡ Some b → x ++? y ≡ Some (a ++ b)
Some_both a b x y e f = ap₂ (λ s t. s ++? t) e f

entries_text_is : (qs : List Named) (fs : List Texts) → Pairwise IsSpelledBy qs fs → spelled_entries (entries_of qs) ≡ Some (entries_bytes fs)
unfolding spelled
entries_text_is [] [] w = refl
entries_text_is (q ∷ qs) (f ∷ fs) w = Some_both f.0 (f.1 ++ entries_bytes fs) _ _ w.0.key (Some_both f.1 (entries_bytes fs) _ _ w.0.value (entries_text_is qs fs w.1))
entries_text_is _ _ w = absurd w

count_is : (qs : List Named) → entry_count (entries_of qs) ≡ length qs
count_is [] = refl
count_is (q ∷ qs) = ap suc (count_is qs)

good_pairs : (qs : List Named) (fs : List Texts) → Pairwise IsSpelledBy qs fs → EachPair IsGoodPair qs
good_pairs [] [] w = tt
good_pairs (q ∷ qs) (f ∷ fs) w = (w.0.good, good_pairs qs fs w.1)
good_pairs _ _ w = absurd w

-- ---- the map of the pairs

pub tree_of : (ps : List Pair) (qs : List Named) (es : Entries) (b : Bool) → all_some (map pair_of ps) ≡ Some qs → repeats_key qs ≡ b → ordered_entries qs ≡ es → entries_tree ps ≡ cond b None (Some (mapping es))
tree_of ps qs es b e r o = ap (λ x. option_and_then map_tree x) e ∙ ap₂ (λ c x. cond c None (Some (mapping x))) r o

text_by : (out : Bool) (ps : List Pair) (qs : List Named) (fs : List Texts) → entries_tree ps ≡ Some (mapping (entries_of qs)) → Pairwise IsSpelledBy qs fs → map_rest out ps ≡ head_rest out (length fs) ++? Some (entries_bytes fs)
unfolding spelled
text_by false ps qs fs e w = ap spelled_tree e ∙ ap₂ (λ n x. spelled_head 5 n ++? x) (count_is qs ∙ pairwise_length IsSpelledBy qs fs w) (entries_text_is qs fs w)
text_by true ps qs fs e w = ap entries_text e ∙ entries_text_is qs fs w

-- entries in the order of their keys are the map of the pairs
pub record IsMapOf (out : Bool) (ps : List Pair) (fs : List Texts) : Type 0 where
  pub text : map_rest out ps ≡ head_rest out (length fs) ++? Some (entries_bytes fs)
  pub good : IfSome (entries_tree ps) IsTree

pub in_order : (out : Bool) (ps : List Pair) (es fs : List Texts) → AreSpellingsOf ps es → PutsInOrder es fs true → IsMapOf out ps fs
in_order out ps es fs h o =
    let given = pairs_named ps es h in
    let moved = beside IsSpelledBy given.0 es fs o.0 given.2 in
    let sorted = ordered_by_sort given.0 moved.0 moved.1 (sorted_names moved.0 fs moved.2 (λ k d h. rw add-one at (o.1 k d (omega arith) (omega (arith, h)))) (λ k d h e. o.2 k d (omega (arith, h)) (rw add-one e))) in
    let none = test_from_distinct given.0 sorted.0 in
    let is = tree_of ps given.0 (entries_of moved.0) false given.1 none sorted.1 in
    let as_ordered = tree_of ps given.0 (ordered_entries given.0) false given.1 none refl in
    let P : Option Tree → Type 0 = λ t. IfSome t IsTree in
    record { text = text_by out ps moved.0 fs is moved.2; good = subst P (sym as_ordered) (are_entries given.0 sorted.0 (good_pairs given.0 es given.2)) }

-- ---- a row of pairs whose keys rise

rises_after : (last : List ℕ) (ps : List Pair) → KeysRise last ps → Rises ps
rises_after last [] r = tt
rises_after last (p ∷ ps) r = by (option_and_then key_of p.0) r
  where
    by : (o : Option (List ℕ)) → IsSomeAnd o (λ k. (key_cmp last k ≡ Less) × KeysRise k ps) → IsSomeAnd o (λ k. KeysRise k ps)
    by None r = absurd r
    by (Some k) r = r.1

-- these are the names of the pairs, and their trees
record IsRow (ps : List Pair) (names : List Named) : Type 0 where
  pub sorted : IsSortedList names
  pub text : spelled_entries (entries_of names) ≡ spelled_pairs ps
  pub count : length names ≡ length ps
  pub good : ArePairs ps → EachPair IsGoodPair names

-- these are the names of the pairs, and their trees, if each value has one
abbrev NamesRow : List Pair → Option (List Named) → Type 0
NamesRow ps None = spelled_pairs ps ≡ None
NamesRow ps (Some names) = IsRow ps names

-- these are the names of the pairs, and their trees, all after a name
abbrev NamesAfter : List ℕ → List Pair → Option (List Named) → Type 0
NamesAfter last ps None = spelled_pairs ps ≡ None
NamesAfter last ps (Some names) = AllByRecursion (λ y. key_cmp last y ≡ Less) (keys_of names) × IsRow ps names

empty_row : IsRow [] []
unfolding IsStrictlySortedBy spelled
empty_row = record { sorted = tt; text = refl; count = refl; good = λ g. tt }

module _ (k : List ℕ) (t : Tree) (ps : List Pair) where
  abbrev first : Pair
  first = (Some (text k), Some t)

  entry_text : (es : Entries) → spelled_entries es ≡ spelled_pairs ps → spelled_entries (entry k t es) ≡ spelled_pairs (first ∷ ps)
  unfolding spelled
  entry_text es e = ap (λ x. spelled (text k) ++? (spelled t ++? x)) e

  entry_no_text : spelled_pairs ps ≡ None → spelled_pairs (first ∷ ps) ≡ None
  entry_no_text e = ap (λ x. spelled (text k) ++? (spelled t ++? x)) e ∙ ap (λ x. spelled (text k) ++? x) (append_None (spelled t)) ∙ append_None (spelled (text k))

  more_row : (names : List Named) → NamesAfter k ps (Some names) → IsRow (first ∷ ps) ((k, t) ∷ names)
  unfolding IsStrictlySortedBy
  more_row names h = record { sorted = (h.0, h.1.sorted); text = entry_text (entries_of names) h.1.text; count = ap suc h.1.count; good = λ g. ((g.0, g.1), h.1.good g.2) }

  row_with : (o : Option (List Named)) → NamesAfter k ps o → NamesRow (first ∷ ps) (option_map (λ more. (k, t) ∷ more) o)
  row_with None h = entry_no_text h
  row_with (Some names) h = more_row names h

  after_with : (last : List ℕ) → key_cmp last k ≡ Less → (o : Option (List Named)) → NamesAfter k ps o → NamesAfter last (first ∷ ps) (option_map (λ more. (k, t) ∷ more) o)
  after_with last r None h = entry_no_text h
  after_with last r (Some names) h = ((r, below_all last k (keys_of names) r h.0), more_row names h)

names_after : (last : List ℕ) (ps : List Pair) → KeysRise last ps → NamesAfter last ps (all_some (map pair_of ps))
names_after last [] r = (tt, empty_row)
names_after last ((None, v) ∷ ps) r = absurd r
names_after last ((Some (text k), None) ∷ ps) r = append_None (spelled (text k))
names_after last ((Some (text k), Some t) ∷ ps) r = after_with k t ps last r.0 (all_some (map pair_of ps)) (names_after k ps r.1)
names_after last ((Some _, v) ∷ ps) r = absurd r

names_of : (ps : List Pair) → Rises ps → NamesRow ps (all_some (map pair_of ps))
names_of [] r = empty_row
names_of ((None, v) ∷ ps) r = absurd r
names_of ((Some (text k), None) ∷ ps) r = append_None (spelled (text k))
names_of ((Some (text k), Some t) ∷ ps) r = row_with k t ps (all_some (map pair_of ps)) (names_after k ps r)
names_of ((Some _, v) ∷ ps) r = absurd r

mapping_text : (names : List Named) → spelled (mapping (entries_of names)) ≡ spelled_head 5 (length names) ++? spelled_entries (entries_of names)
unfolding spelled
mapping_text names = ap (λ n. spelled_head 5 n ++? spelled_entries (entries_of names)) (count_is names)

-- the map of a row whose keys rise, even if a value has no text
pub row_map : (ps : List Pair) (n : ℕ) → n ≡ length ps → Rises ps → (spelled_tree (entries_tree ps) ≡ spelled_head 5 n ++? spelled_pairs ps) × (ArePairs ps → IfSome (entries_tree ps) IsTree)
row_map ps n count r = by (all_some (map pair_of ps)) refl (names_of ps r)
  where
    P : Option Tree → Type 0
    P t = IfSome t IsTree

    by : (o : Option (List Named)) → all_some (map pair_of ps) ≡ o → NamesRow ps o → (spelled_tree (entries_tree ps) ≡ spelled_head 5 n ++? spelled_pairs ps) × (ArePairs ps → IfSome (entries_tree ps) IsTree)
    by None is h = (
      ap (λ x. spelled_tree (option_and_then map_tree x)) is ∙ sym (ap (λ x. spelled_head 5 n ++? x) h ∙ append_None (spelled_head 5 n)),
      λ g. subst P (sym (ap (option_and_then map_tree) is)) tt,
    )
    by (Some names) is h =
        let sorted = ordered_by_sort names names (IsPermutation-refl names) h.sorted in
        let none = test_from_distinct names sorted.0 in
        let whole = tree_of ps names (entries_of names) false is none sorted.1 in
        let as_ordered = tree_of ps names (ordered_entries names) false is none refl in (
          ap spelled_tree whole ∙ mapping_text names ∙ ap₂ (λ k x. spelled_head 5 k ++? x) (h.count ∙ sym count) h.text,
          λ g. subst P (sym as_ordered) (are_entries names sorted.0 (h.good g)),
        )

has_text : (o : Option (List ℕ)) (bs : List ℕ) → AppendsTo [] bs o → o ≡ Some bs
has_text None bs h = absurd h
has_text (Some t) bs h = ap Some (sym h)

-- the bytes written for a row whose keys rise are the map of its pairs
pub rising_map : (ps : List Pair) (n : ℕ) (bs : List ℕ) → n ≡ length ps → AppendsTo [] bs (spelled_pairs ps) → ArePairs ps → KeysRise [] ps → (spelled_tree (entries_tree ps) ≡ spelled_head 5 n ++? Some bs) × IfSome (entries_tree ps) IsTree
rising_map ps n bs count h g r =
    let row = row_map ps n count (rises_after [] ps r) in
    (row.0 ∙ ap (λ x. spelled_head 5 n ++? x) (has_text (spelled_pairs ps) bs h), row.1 g)

-- ---- a key that is there twice

-- the text begins with the spelling of the name
abbrev pub BeginsWithName : {A : Type 0} → Named → List ℕ × A → Type 0
BeginsWithName q f = spelled (text q.0) ≡ Some f.0

with_name : (qs : List Named) (fs : List Texts) → Pairwise IsSpelledBy qs fs → Pairwise BeginsWithName qs fs
with_name [] [] w = tt
with_name (q ∷ qs) (f ∷ fs) w = (w.0.key, with_name qs fs w.1)
with_name _ _ w = absurd w

pub clash : {A : Type 0} (qs : List Named) (fs : List (List ℕ × A)) (k : ℕ) → Pairwise BeginsWithName qs fs → suc k < length fs → ((d : List ℕ × A) → (get_or fs k d).0 ≡ (get_or fs (suc k) d).0) → AreDistinct qs → ⊥
unfolding IsDistinct
clash [] [] k w h e d = omega (arith, h)
clash (q ∷ qs) (f ∷ []) k w h e d = omega (arith, h)
clash (q ∷ []) (f ∷ g ∷ fs) k w h e d = absurd w.1
clash (q ∷ p ∷ qs) (f ∷ g ∷ fs) zero w h e d =
    let same : key_cmp q.0 p.0 ≡ Equal = ap (key_cmp q.0) (sym (same_text q.0 p.0 f.0 g.0 w.0 w.1.0 (e f))) ∙ key_cmp_same q.0 in
    let differ : true ≡ false = sym (ap is_eq same) ∙ d.0.0 in cc differ
clash (q ∷ p ∷ qs) (f ∷ g ∷ fs) (suc k) w h e d = clash (p ∷ qs) (g ∷ fs) k w.1 (omega (arith, h)) e d.1
clash _ _ k w h e d = absurd w

pub repeats : (b : Bool) (qs : List Named) → repeats_key qs ≡ b → (AreDistinct qs → ⊥) → b ≡ true
repeats true qs e n = refl
repeats false qs e n = absurd (n (distinct_from_test qs e))

rest_None : (out : Bool) (ps : List Pair) → entries_tree ps ≡ None → map_rest out ps ≡ None
rest_None false ps e = ap spelled_tree e
rest_None true ps e = ap entries_text e

-- if a key repeats, there is no map
pub no_order : (out : Bool) (ps : List Pair) (es fs : List Texts) → AreSpellingsOf ps es → PutsInOrder es fs false → (map_rest out ps ≡ None) × RepeatsKey ps
no_order out ps es fs h o =
    let given = pairs_named ps es h in
    let moved = beside IsSpelledBy given.0 es fs o.0 given.2 in
    let apart : AreDistinct given.0 → ⊥ = λ d. clash moved.0 fs o.2.0 (with_name moved.0 fs moved.2) (omega (arith, o.2.1)) (λ e. rw add-one at (o.2.2 e))
    (IsDistinct-IsPermutation same_place same_place_flips (keys_of given.0) (keys_of moved.0) (IsPermutation-map (λ p. p.0) given.0 moved.0 moved.1) d) in
    let twice = repeats (repeats_key given.0) given.0 refl apart in
    let P : Option (List Named) → Type 0 = λ o. IsSomeAnd o (λ pairs_named. IsTrue (repeats_key pairs_named)) in
    (rest_None out ps (tree_of ps given.0 (ordered_entries given.0) true given.1 twice refl), subst P (sym given.1) (search twice))

-- ---- for the end of a collector

module _ (ps : List Pair) (es fs : List Texts) (b : Bool) (h : AreSpellingsOf ps es) (o : PutsInOrder es fs b) where
  at : (c : Bool) → b ≡ c → PutsInOrder es fs c
  at c e = subst (λ x. PutsInOrder es fs x) e o

  pub in_order_written : {T E : Type 0} (out : Bool) (s t : Written) (r : Result T (EncodeError E)) → b ≡ true → Writes (head_rest out (length fs) ++? Some (entries_bytes fs)) s t r → Writes (map_rest out ps) s t r
  in_order_written out s t r e w = subst (λ x. Writes x s t r) (sym (in_order out ps es fs h (at true e)).text) w

  pub in_order_good : {T E : Type 0} (r : Result T E) → b ≡ true → OnOk r (IfSome (entries_tree ps) IsTree)
  in_order_good r e = OnOk_of r (in_order false ps es fs h (at true e)).good

  pub no_order_written : (out : Bool) → b ≡ false → (map_rest out ps ≡ None) × RepeatsKey ps
  no_order_written out e = no_order out ps es fs h (at false e)
