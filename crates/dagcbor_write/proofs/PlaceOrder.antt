-- Rows of pairs that are written in the order of their keys, by their places.
use Rattle.std.proofs.Common.{◌≡◌, ℕ, zero, suc, ◌+◌, ◌<◌, ◌≤◌, List, [], ◌∷◌, ◌++◌, length, get_or, take, drop, map, Option, Some, Bool, true, false, Less, Equal, Greater, refl, sym, ap, ◌∙◌, subst, arith, add-one, append_assoc, IsPermutation, drop-cons, drop_of_length-le, ◌&&◌, IfSome, IsSomeAnd, option_and_then, Ordering, All, is_lt}
use Rattle.std.proofs.Math.Seq.{take-append_seam}
use Rattle.std.proofs.lemmas.List.Sorted.{IsPermutation-map, All-permutation}
use Rattle.std.specs.Fmt.{◌++?◌}
use Rattle.std.specs.List.{refill}
use Rattle.dagcbor_heads.specs.Written.{Written}
use Rattle.dagcbor_heads.proofs.Writing.{Written-but, begin_writing, join_parts, joined_assoc}
use Rattle.ipld_tree.specs.Key.{key_cmp, comes_before}
use Rattle.ipld_tree.specs.Tree.{Tree, text, key_of, IsTree, entries_tree}
use Rattle.ipld_tree.specs.Spelled.{spelled_tree, spelled_head}
use Rattle.dagcbor_write.specs.declared.places.Place.{Place}
use Rattle.dagcbor_write.specs.Gathering.{AppendsTo}
use Rattle.dagcbor_write.specs.Maps.{spelled_key}
use Rattle.dagcbor_write.specs.Rows.{spelled_pairs, ArePairs, KeysRise, pair_at, spelled_pair, IsPair, ArePlaces, ListsPlaces, names_rise, in_order, IsKeyOrder}
use Rattle.dagcbor_write.specs.Trees.{Pair}
use Rattle.dagcbor_write.proofs.Mapping.{rising_map}
use Rattle.dagcbor_write.proofs.Walks.{same_map}

-- ---- a loop over places

pub begins : {A : Type 0} (xs : List A) (i : ℕ) (d : A) → i < length xs
    → drop i xs ≡ get_or xs i d ∷ drop (i + 1) xs
begins xs i d h = rw add-one (drop-cons xs i d h)

-- the first of the names that are left comes after the last one
pub name_rises : (es : List Place) (i : ℕ) (d : Place) (last : List ℕ) → i < length es
    → comes_before last (get_or es i d).name.now ≡ true
    → names_rise last (drop i es) ≡ names_rise (get_or es i d).name.now (drop (i + 1) es)
name_rises es i d last h e =
    let more = names_rise (get_or es i d).name.now (drop (i + 1) es) in
    ap (names_rise last) (begins es i d h) ∙ ap (λ b. b && more) e

-- or it does not
pub name_stops : (es : List Place) (i : ℕ) (d : Place) (last : List ℕ) → i < length es
    → comes_before last (get_or es i d).name.now ≡ false → names_rise last (drop i es) ≡ false
name_stops es i d last h e =
    let more = names_rise (get_or es i d).name.now (drop (i + 1) es) in
    ap (names_rise last) (begins es i d h) ∙ ap (λ b. b && more) e

pub no_name : (es : List Place) (i : ℕ) (last : List ℕ) → length es ≤ i
    → names_rise last (drop i es) ≡ true
no_name es i last h = ap (names_rise last) (drop_of_length-le es h)

pub pairs_joined : (ps : List Pair) → spelled_pairs ps ≡ join_parts (map spelled_pair ps)
pairs_joined [] = refl
pairs_joined (p ∷ ps) =
    ap (λ x. spelled_key p.0 ++? (spelled_tree p.1 ++? x)) (pairs_joined ps)
    ∙ sym (joined_assoc (spelled_key p.0) (spelled_tree p.1) (join_parts (map spelled_pair ps)))

module _ {A : Type 0} (pair : A → Pair) (es : List A) where
  -- the pairs of those that are left
  abbrev pub left_from : ℕ → List Pair
  left_from i = map pair (drop i es)

  first_left : (i : ℕ) (d : A) (p : Pair) → i < length es → pair (get_or es i d) ≡ p
      → left_from i ≡ p ∷ left_from (i + 1)
  first_left i d p h e =
      ap (map pair) (begins es i d h) ∙ ap (λ q. q ∷ left_from (i + 1)) e

  none_left : (i : ℕ) → length es ≤ i → left_from i ≡ []
  none_left i h = ap (map pair) (drop_of_length-le es h)

  -- the pair of the first of those that are left, and what is left after it
  pub at_pair : (i : ℕ) (d : A) (p : Pair) → i < length es → pair (get_or es i d) ≡ p
      → {whole : Option (List ℕ)} {s t : Written}
      → Written-but whole (map spelled_pair (left_from i)) s t
      → Written-but whole (spelled_pair p ∷ map spelled_pair (left_from (i + 1))) s t
  at_pair i d p h e {whole} {s} {t} w =
      let P : List Pair → Type 0 = λ qs. Written-but whole (map spelled_pair qs) s t in
      subst P (first_left i d p h e) w

  pub no_pair_left : (i : ℕ) → length es ≤ i → {whole : Option (List ℕ)} {s t : Written}
      → Written-but whole (map spelled_pair (left_from i)) s t → Written-but whole [] s t
  no_pair_left i h {whole} {s} {t} w =
      let P : List Pair → Type 0 = λ qs. Written-but whole (map spelled_pair qs) s t in
      subst P (none_left i h) w

  -- what follows from the pairs that are left, follows from those after a well-formed one
  pub good_pair : (i : ℕ) (d : A) (p : Pair) → i < length es → pair (get_or es i d) ≡ p
      → {G : Type 0} → (ArePairs (left_from i) → G) → IsPair p → ArePairs (left_from (i + 1)) → G
  good_pair i d p h e all good more =
      let P : List Pair → Type 0 = λ qs. ArePairs qs in
      all (subst P (sym (first_left i d p h e)) (good.0, good.1, more))

  pub all_good : (i : ℕ) → length es ≤ i → {G : Type 0} → (ArePairs (left_from i) → G) → G
  all_good i h all =
      let P : List Pair → Type 0 = λ qs. ArePairs qs in all (subst P (sym (none_left i h)) tt)

-- the pairs in the places that are left
abbrev pub left_at : List Pair → List Place → ℕ → List Pair
left_at ps es i = left_from (λ (e : Place). pair_at ps e.at) es i

pub begin_places : (ps : List Pair) (es : List Place) (s : Written)
    → Written-but (spelled_pairs (left_at ps es 0)) (map spelled_pair (left_at ps es 0)) s s
begin_places ps es s = begin_writing _ _ s (pairs_joined (left_at ps es 0))

-- ---- places that are put in order

-- the place is that of a pair of this name
abbrev IsPlaceOf : List Pair → Place → Type 0
IsPlaceOf ps e = (e.at < length ps) × ((pair_at ps e.at).0 ≡ Some (text e.name.now))

at_seam : (done ps : List Pair) (p : Pair) → pair_at (done ++ p ∷ ps) (length done) ≡ p
at_seam [] ps p = refl
at_seam (q ∷ done) ps p = at_seam done ps p

within_seam : (done ps : List Pair) (p : Pair) → length done < length (done ++ p ∷ ps)
within_seam [] ps p = omega arith
within_seam (q ∷ done) ps p = let h = within_seam done ps p in omega (arith, h)

one_more : (done : List Pair) (p : Pair) → length (done ++ p ∷ []) ≡ suc (length done)
one_more [] p = refl
one_more (q ∷ done) p = ap suc (one_more done p)

-- the places listed for a row, after those of its beginning
record AreListed (row ps : List Pair) (es : List Place) : Type 0 where
  pub each : All (IsPlaceOf row) es
  pub same : map (λ e. pair_at row e.at) es ≡ ps

first_listed : (row ps : List Pair) (p : Pair) (e : Place) (es : List Place)
    → IsPlaceOf row e → pair_at row e.at ≡ p → AreListed row ps es → AreListed row (p ∷ ps) (e ∷ es)
first_listed row ps p e es one is more = record {
  each = by;
  same = ap (λ x. x ∷ map (λ f. pair_at row f.at) es) is ∙ ap (λ qs. p ∷ qs) more.same;
}
  where
    by : All (IsPlaceOf row) (e ∷ es)
    by zero d h = one
    by (suc k) d h = more.each k d (omega (arith, h))

listed : (done ps : List Pair) (es : List Place) → ArePlaces (length done) ps es
    → AreListed (done ++ ps) ps es
listed done [] [] a = record { each = λ k d h. absurd (omega (arith, h)); same = refl }
listed done (p ∷ ps) (e ∷ es) a =
    let row : List Pair = done ++ p ∷ ps in
    let there : pair_at row e.at ≡ p = ap (pair_at row) a.1 ∙ at_seam done ps p in
    let within : length done < length row = within_seam done ps p in
    let P : ℕ → Type 0 = λ n. ArePlaces n ps es in
    let Q : List Pair → Type 0 = λ qs. AreListed qs ps es in
    let more = listed (done ++ p ∷ []) ps es (subst P (sym (one_more done p)) a.2) in
    first_listed row ps p e es (omega (arith, within, a.1), ap (λ q. q.0) there ∙ a.0) there
    (subst Q (append_assoc done (p ∷ []) ps) more)
listed done _ _ a = absurd a

both_true : (a b : Bool) → a && b ≡ true → (a ≡ true) × (b ≡ true)
both_true true b e = (refl, e)
both_true false b e = cc

pub is_less : (o : Ordering) → is_lt o ≡ true → o ≡ Less
is_less Less e = refl
is_less Equal e = cc
is_less Greater e = cc

keys_rise : (ps : List Pair) (last : List ℕ) (es : List Place) → All (IsPlaceOf ps) es
    → names_rise last es ≡ true → KeysRise last (in_order ps (Some es))
keys_rise ps last [] each e = tt
keys_rise ps last (f ∷ es) each e =
    let name = f.name.now in
    let first = both_true (comes_before last name) (names_rise name es) e in
    let others : All (IsPlaceOf ps) es = λ k d h. each (suc k) d (omega (arith, h)) in
    let more = keys_rise ps name es others first.1 in
    let P : Option Tree → Type 0 = λ o. IsSomeAnd (option_and_then key_of o)
    (λ k. (key_cmp last k ≡ Less) × KeysRise k (in_order ps (Some es))) in
    subst P (sym (each 0 f (omega arith)).1) (is_less (key_cmp last name) first.0, more)

-- places that were listed and then put in another order, in which their names rise
pub key_order : (ps : List Pair) (old es fs : List Place) → old ≡ [] → ListsPlaces ps old es
    → IsPermutation es fs → names_rise [] fs ≡ true → IsKeyOrder ps (Some fs)
key_order ps old es fs none lists moved rise =
    let P : List Place → Type 0 = λ o. ArePlaces (length o) ps lists.0 in
    let are = listed [] ps lists.0 (subst P none lists.1) in
    let whole : es ≡ lists.0 = lists.2 ∙ ap (λ o. o ++ lists.0) none in
    let Q : List Place → Type 0 = λ gs. IsPermutation gs fs in
    let turned : IsPermutation lists.0 fs = subst Q whole moved in
    let each = All-permutation (IsPlaceOf ps) lists.0 fs turned are.each in
    let R : List Pair → Type 0 = λ qs. IsPermutation qs (in_order ps (Some fs)) in
    record {
      places = λ k d h. (each k d h).0;
      all = subst R are.same (IsPermutation-map (λ e. pair_at ps e.at) lists.0 fs turned);
      rise = keys_rise ps [] fs each rise;
    }

refilled : (es fs : List Place) → length fs ≡ length es → refill (length es) es fs ≡ fs
refilled es fs e =
    ap (λ n. take n (fs ++ drop (length fs) es)) (sym e)
    ∙ take-append_seam fs (drop (length fs) es)

-- places that were listed and then sorted through a loan, in which their names rise
pub sorted_order : (ps : List Pair) (old es lent fs seen : List Place) → old ≡ []
    → ListsPlaces ps old es → lent ≡ es → IsPermutation lent fs → length fs ≡ length lent
    → seen ≡ refill (length es) es fs → names_rise [] seen ≡ true
    → IsKeyOrder ps (Some (refill (length es) es fs))
sorted_order ps old es lent fs seen none lists is moved same shown rise =
    let back = refilled es fs (same ∙ ap length is) in
    let P : List Place → Type 0 = λ gs. IsPermutation gs fs in
    let rises : names_rise [] fs ≡ true = ap (names_rise []) (sym (shown ∙ back)) ∙ rise in
    let Q : List Place → Type 0 = λ gs. IsKeyOrder ps (Some gs) in
    subst Q (sym back) (key_order ps old es fs none lists (subst P is moved) rises)

-- the bytes written for a row in an order in which its keys rise are the map of its pairs
pub ordered_map : (ps : List Pair) (order : Option (List Place)) (n : ℕ) (bs : List ℕ)
    → n ≡ length (in_order ps order) → AppendsTo [] bs (spelled_pairs (in_order ps order))
    → ArePairs (in_order ps order) → IsKeyOrder ps order
    → (spelled_tree (entries_tree ps) ≡ spelled_head 5 n ++? Some bs)
    × IfSome (entries_tree ps) IsTree
ordered_map ps order n bs count h good is =
    let P : Option Tree → Type 0 = λ t.
    (spelled_tree t ≡ spelled_head 5 n ++? Some bs) × IfSome t IsTree in
    subst P (sym (same_map ps (in_order ps order) is.all))
    (rising_map (in_order ps order) n bs count h good is.rise)
