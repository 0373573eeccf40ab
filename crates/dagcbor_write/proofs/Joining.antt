-- A row of pairs, and another after it.
use Rattle.std.proofs.Common.{◌≡◌, ℕ, suc, ◌+◌, ◌<◌, List, [], ◌∷◌, ◌++◌, length, Option, None, Some, Result, Ok, Err, refl, sym, ap, ◌∙◌, subst, arith, append_assoc, MatchResult, IsErrAnd, IsSomeAnd, option_and_then, OnOk, IsOk, IfSome, Less}
use Rattle.std.proofs.lemmas.List.{length-append, get_or_append_left, get_or-append-add}
use Rattle.std.specs.Fmt.{◌++?◌}
use Rattle.dagcbor_core.specs.declared.error.EncodeError.{EncodeError}
use Rattle.dagcbor_heads.specs.Written.{Written}
use Rattle.dagcbor_heads.proofs.Writing.{Written-but, Some_append, joined_assoc}
use Rattle.ipld_tree.specs.Key.{key_cmp}
use Rattle.ipld_tree.specs.Tree.{key_of}
use Rattle.ipld_tree.specs.Spelled.{spelled_tree}
use Rattle.dagcbor_write.specs.declared.places.Place.{Place}
use Rattle.dagcbor_write.specs.Trees.{Pair}
use Rattle.dagcbor_write.specs.Maps.{Texts, spelled_key, AreSpellingsOf, JoinsPairs, StopsAtPair, LacksValue}
use Rattle.dagcbor_write.specs.Rows.{spelled_pairs, ArePairs, KeysRise, KeysRiseTo, pair_at, ArePlaces, ListsPlaces}
use Rattle.dagcbor_write.proofs.Fields.{other_lacks}
use Rattle.dagcbor_write.proofs.Parts.{begin_two}

-- ---- the pairs that are given

spellings_join : (ps qs : List Pair) (xs ys : List Texts) → AreSpellingsOf ps xs
    → AreSpellingsOf qs ys → AreSpellingsOf (ps ++ qs) (xs ++ ys)
spellings_join [] qs [] ys a b = b
spellings_join [] qs (x ∷ xs) ys a b = absurd a
spellings_join (p ∷ ps) qs [] ys a b = absurd a
spellings_join (p ∷ ps) qs (x ∷ xs) ys a b = (a.0, spellings_join ps qs xs ys a.1 b)

joins_both : (ps qs : List Pair) (old middle new : List Texts) → JoinsPairs ps old middle
    → JoinsPairs qs middle new → JoinsPairs (ps ++ qs) old new
joins_both ps qs old middle new h k = (
  h.0 ++ k.0,
  spellings_join ps qs h.0 k.0 h.1 k.1,
  k.2 ∙ ap (λ xs. xs ++ k.0) h.2 ∙ append_assoc old h.0 k.0,
)

module _ (whole ps qs : List Pair) (both : whole ≡ ps ++ qs) where
  -- those of the first row joined, and then those of the second, or one of these was refused
  pub both_given : {T E : Type 0} (old middle new : List Texts) (r : Result T (EncodeError E))
      → JoinsPairs ps old middle
      → MatchResult r (λ _. JoinsPairs qs middle new) (StopsAtPair qs middle new)
      → MatchResult r (λ _. JoinsPairs whole old new) (StopsAtPair whole old new)
  both_given old middle new (Ok x) h k =
      let P : List Pair → Type 0 = λ row. JoinsPairs row old new in
      subst P (sym both) (joins_both ps qs old middle new h k)
  both_given old middle new (Err d) h k = record {
    taken = ps ++ k.taken;
    refused = k.refused;
    left = k.left;
    split = both ∙ ap (λ row. ps ++ row) k.split ∙ sym (append_assoc ps k.taken (k.refused ∷ k.left));
    joined = joins_both ps k.taken old middle new h k.joined;
    cause = k.cause;
  }

  -- the exit of a `?` at the first row
  pub first_stops : {T E : Type 0} (old new : List Texts) (r : Result T (EncodeError E))
      (e : EncodeError E) → StopsAtPair ps old new e → IsErrAnd r (λ d. d ≡ e)
      → MatchResult r (λ _. JoinsPairs whole old new) (StopsAtPair whole old new)
  first_stops old new (Ok x) e h is = absurd is
  first_stops {T} {E} old new (Err d) e h is =
      let P : EncodeError E → Type 0 = λ y. StopsAtPair whole old new y in
      subst P (sym is) record {
        taken = h.taken;
        refused = h.refused;
        left = h.left ++ qs;
        split = both ∙ ap (λ row. row ++ qs) h.split ∙ append_assoc h.taken (h.refused ∷ h.left) qs;
        joined = h.joined;
        cause = h.cause;
      }

-- ---- what is written of them

spelled_both : (ps qs : List Pair) → spelled_pairs (ps ++ qs) ≡ spelled_pairs ps ++? spelled_pairs qs
spelled_both [] qs = sym (Some_append (spelled_pairs qs))
spelled_both (p ∷ ps) qs =
    let key = spelled_key p.0 in
    let value = spelled_tree p.1 in
    ap (λ more. key ++? (value ++? more)) (spelled_both ps qs)
    ∙ ap (λ more. key ++? more) (sym (joined_assoc value (spelled_pairs ps) (spelled_pairs qs)))
    ∙ sym (joined_assoc key (value ++? spelled_pairs ps) (spelled_pairs qs))

good_both : (ps qs : List Pair) → ArePairs ps → ArePairs qs → ArePairs (ps ++ qs)
good_both [] qs a b = b
good_both (p ∷ ps) qs a b = (a.0, a.1, good_both ps qs a.2 b)

second_lacks : (ps qs : List Pair) → LacksValue qs → LacksValue (ps ++ qs)
second_lacks [] qs h = h
second_lacks (p ∷ ps) qs h = other_lacks p (ps ++ qs) (second_lacks ps qs h)

first_lacks : (ps qs : List Pair) → LacksValue ps → LacksValue (ps ++ qs)
first_lacks ps qs h = (
  h.0,
  h.1,
  omega (arith, h.2, length-append ps qs),
  get_or_append_left ps qs h.1 h.0 h.2 ∙ h.3,
  h.4,
)

pub never_ok : {T E A : Type 0} (r : Result T E) (e : E) → r ≡ Err e → IsOk r → A
never_ok (Ok x) e is k = cc
never_ok (Err d) e is k = cc

none_first : (ps qs : List Pair) → ps ++ qs ≡ [] → ps ≡ []
none_first [] qs e = refl
none_first (p ∷ ps) qs e = cc

none_second : (ps qs : List Pair) → ps ++ qs ≡ [] → qs ≡ []
none_second [] qs e = e
none_second (p ∷ ps) qs e = cc

module _ (whole ps qs : List Pair) (both : whole ≡ ps ++ qs) where
  pub begin_rows : (s : Written)
      → Written-but (spelled_pairs whole) (spelled_pairs ps ∷ spelled_pairs qs ∷ []) s s
  begin_rows s = begin_two _ _ _ s (ap spelled_pairs both ∙ spelled_both ps qs)

  pub rows_good : {T E : Type 0} (r : Result T E) → ArePairs ps → OnOk r (ArePairs qs)
      → OnOk r (ArePairs whole)
  rows_good (Ok x) a b =
      let P : List Pair → Type 0 = λ row. ArePairs row in subst P (sym both) (good_both ps qs a b)
  rows_good (Err e) a b = tt

  pub lacks_first : LacksValue ps → LacksValue whole
  lacks_first h =
      let P : List Pair → Type 0 = λ row. LacksValue row in subst P (sym both) (first_lacks ps qs h)

  pub lacks_second : LacksValue qs → LacksValue whole
  lacks_second h =
      let P : List Pair → Type 0 = λ row. LacksValue row in subst P (sym both) (second_lacks ps qs h)

  pub first_empty : whole ≡ [] → ps ≡ []
  first_empty e = none_first ps qs (sym both ∙ e)

  pub second_empty : whole ≡ [] → qs ≡ []
  second_empty e = none_second ps qs (sym both ∙ e)

  pub rows_count : length whole ≡ length ps + length qs
  rows_count = ap length both ∙ length-append ps qs

  -- ---- a pair of them

  pub in_first : (place : ℕ) → place < length ps → pair_at whole place ≡ pair_at ps place
  in_first place h =
      ap (λ row. pair_at row place) both ∙ get_or_append_left ps qs (None, None) place h

  pub in_second : (place more : ℕ) → place ≡ more + length ps → pair_at whole place ≡ pair_at qs more
  in_second place more e =
      let at : place ≡ length ps + more = omega (arith, e) in
      ap (λ row. pair_at row place) both ∙ ap (λ i. pair_at (ps ++ qs) i) at
      ∙ get_or-append-add ps qs more (None, None)

-- ---- their keys

and_more : {T : Type 0} (o : Option T) (P Q : T → Type 0) → ((x : T) → P x → Q x)
    → IsSomeAnd o P → IsSomeAnd o Q
and_more None P Q more h = absurd h
and_more (Some x) P Q more h = more x h

pub rise_alone : (last : List ℕ) (ps : List Pair) (end : List ℕ) → KeysRiseTo last ps end
    → KeysRise last ps
rise_alone last [] end h = tt
rise_alone last (p ∷ ps) end h =
    and_more (option_and_then key_of p.0) (λ k. (key_cmp last k ≡ Less) × KeysRiseTo k ps end)
    (λ k. (key_cmp last k ≡ Less) × KeysRise k ps) (λ k m. (m.0, rise_alone k ps end m.1)) h

rise_both : (last : List ℕ) (ps : List Pair) (middle : List ℕ) (qs : List Pair) (end : List ℕ)
    → KeysRiseTo last ps middle → KeysRiseTo middle qs end → KeysRiseTo last (ps ++ qs) end
rise_both last [] middle qs end h k =
    let P : List ℕ → Type 0 = λ l. KeysRiseTo l qs end in subst P (sym h) k
rise_both last (p ∷ ps) middle qs end h k =
    and_more (option_and_then key_of p.0) (λ l. (key_cmp last l ≡ Less) × KeysRiseTo l ps middle)
    (λ l. (key_cmp last l ≡ Less) × KeysRiseTo l (ps ++ qs) end)
    (λ l m. (m.0, rise_both l ps middle qs end m.1 k)) h

rows_rise : (whole ps qs : List Pair) → whole ≡ ps ++ qs → (last middle end : List ℕ)
    → KeysRiseTo last ps middle → KeysRiseTo middle qs end → KeysRiseTo last whole end
rows_rise whole ps qs both last middle end h k =
    let P : List Pair → Type 0 = λ row. KeysRiseTo last row end in
    subst P (sym both) (rise_both last ps middle qs end h k)

-- they rise from the one that was counted last to the last
pub rows_counted : (whole ps qs : List Pair) → whole ≡ ps ++ qs → (r : Option Place)
    (last middle : Place)
    → (middle.at ≡ last.at + length ps) × KeysRiseTo last.name.now ps middle.name.now
    → IfSome r (λ end. (end.at ≡ middle.at + length qs) × KeysRiseTo middle.name.now qs end.name.now)
    → IfSome r (λ end. (end.at ≡ last.at + length whole) × KeysRiseTo last.name.now whole end.name.now)
rows_counted whole ps qs both None last middle h k = tt
rows_counted whole ps qs both (Some end) last middle h k = (
  omega (arith, h.0, k.0, ap length both ∙ length-append ps qs),
  rows_rise whole ps qs both last.name.now middle.name.now end.name.now h.1 k.1,
)

-- ---- their places

as_many : (i : ℕ) (ps : List Pair) (es : List Place) → ArePlaces i ps es → length es ≡ length ps
as_many i [] [] a = refl
as_many i (p ∷ ps) (e ∷ es) a = ap suc (as_many (suc i) ps es a.2)
as_many i [] (e ∷ es) a = absurd a
as_many i (p ∷ ps) [] a = absurd a

places_both : (i j : ℕ) (ps qs : List Pair) (es fs : List Place) → j ≡ i + length ps
    → ArePlaces i ps es → ArePlaces j qs fs → ArePlaces i (ps ++ qs) (es ++ fs)
places_both i j [] qs [] fs at a b =
    let P : ℕ → Type 0 = λ n. ArePlaces n qs fs in subst P (omega (arith, at)) b
places_both i j (p ∷ ps) qs (e ∷ es) fs at a b =
    (a.0, a.1, places_both (suc i) j ps qs es fs (omega (arith, at)) a.2 b)
places_both i j [] qs (e ∷ es) fs at a b = absurd a
places_both i j (p ∷ ps) qs [] fs at a b = absurd a

pub rows_listed : (whole ps qs : List Pair) → whole ≡ ps ++ qs → (old middle new : List Place)
    → ListsPlaces ps old middle → ListsPlaces qs middle new → ListsPlaces whole old new
rows_listed whole ps qs both old middle new h k =
    let P : List Pair → Type 0 = λ row. ListsPlaces row old new in
    let many = as_many (length old) ps h.0 h.1 in
    let at : length middle ≡ length old + length ps =
    ap length h.2 ∙ length-append old h.0 ∙ ap (λ n. length old + n) many in
    subst P (sym both) (
      h.0 ++ k.0,
      places_both (length old) (length middle) ps qs h.0 k.0 at h.1 k.1,
      k.2 ∙ ap (λ es. es ++ k.0) h.2 ∙ append_assoc old h.0 k.0,
    )
