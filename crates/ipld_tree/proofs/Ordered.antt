-- Entries in the order of their keys.
use Rattle.std.proofs.Common.{◌≡◌, ◌⊎◌, inl, inr, ℕ, zero, suc, ◌<◌, List, [], ◌∷◌, length, get_or, Bool, true, false, cond, ◌||◌, Ordering, Less, Equal, Greater, refl, sym, ap, ap₂, ◌∙◌, arith, is_eq, Contains, IsPermutation, is_lt}
use Rattle.std.proofs.lemmas.Cmp.{then_total, on_total, nat_cmp_total, nat_list_cmp_total, tied_itself}
use Rattle.std.proofs.lemmas.List.Sorted.{Contains-permutation, IsPermutation-sym, IsPermutation-map}
use Rattle.std.proofs.lemmas.Map.Keys.{IsDistinct-IsPermutation}
use Rattle.std.specs.Prelude.{⊤}
use Rattle.std.specs.Cmp.{IsTotalOrder}
use Rattle.std.specs.List.{IsDistinct, AllByRecursion}
use Rattle.std.specs.List.Sorted.{IsStrictlySortedBy}
use Rattle.std.specs.Map.{keys_of}
use Rattle.std.specs.Ordering.{ordering_reverse}
use Rattle.ipld_tree.specs.Key.{key_cmp, comes_before}
use Rattle.ipld_tree.specs.Tree.{Tree, Entries, no_entries, entry, Precedes, entries_of, insert, ordered_entries, has_key, repeats_key}

or_false : (a b : Bool) → (a || b) ≡ false → (a ≡ false) × (b ≡ false)
or_false true b h = absurd cc
or_false false b h = (refl, h)

abbrev pub KeyAndTree : Type 0
KeyAndTree = List ℕ × Tree

-- each key comes before the next
abbrev pub IsRising : Entries → Type 0
IsRising no_entries = ⊤
IsRising (entry k t es) = Precedes k es × IsRising es

abbrev pub Has : Entries → List ℕ → Tree → Type 0
Has no_entries k t = ⊥
Has (entry l u es) k t = ((l ≡ k) × (u ≡ t)) ⊎ Has es k t

-- ---- the order of keys

pub key_cmp_total : IsTotalOrder key_cmp
key_cmp_total = then_total (on_total length nat_cmp_total) nat_list_cmp_total

pub key_cmp_same : (k : List ℕ) → key_cmp k k ≡ Equal
key_cmp_same k = tied_itself key_cmp_total k

pub less_from_before : (k l : List ℕ) → comes_before k l ≡ true → key_cmp k l ≡ Less
less_from_before k l h = by (key_cmp k l) h
  where
    by : (o : Ordering) → is_lt o ≡ true → o ≡ Less
    by Less e = refl
    by Equal e = absurd cc
    by Greater e = absurd cc

never_below_itself : (k l : List ℕ) → key_cmp k l ≡ Less → k ≡ l → ⊥
never_below_itself k l h e = let differ : Equal ≡ Less = sym (key_cmp_same k) ∙ ap (key_cmp k) e ∙ h in absurd (cc differ)

pub after_not_before : (k l : List ℕ) → comes_before k l ≡ false → (key_cmp k l ≡ Equal → ⊥) → key_cmp l k ≡ Less
after_not_before k l h apart = key_cmp_total.antisymm l k ∙ ap ordering_reverse (by (key_cmp k l) h apart)
  where
    by : (o : Ordering) → is_lt o ≡ false → (o ≡ Equal → ⊥) → o ≡ Greater
    by Less e f = absurd cc
    by Equal e f = absurd (f refl)
    by Greater e f = refl

-- ---- rising entries are given by what they have

pub above : (k : List ℕ) (es : Entries) → Precedes k es → IsRising es → (l : List ℕ) (t : Tree) → Has es l t → key_cmp k l ≡ Less
above k no_entries p r l t h = absurd h
above k (entry m u es) p r l t (inl same) = ap (key_cmp k) (sym same.0) ∙ less_from_before k m p
above k (entry m u es) p r l t (inr more) = key_cmp_total.trans k m l (less_from_before k m p) (above m es r.0 r.1 l t more)

heads : (k l : List ℕ) (t u : Tree) (es fs : Entries) → IsRising (entry k t es) → IsRising (entry l u fs) → Has (entry l u fs) k t → Has (entry k t es) l u → (k ≡ l) × (t ≡ u)
heads k l t u es fs r s (inl same) h = (sym same.0, sym same.1)
heads k l t u es fs r s (inr g) (inl same) = (same.0, same.1)
heads k l t u es fs r s (inr g) (inr h) = absurd (never_below_itself k k (key_cmp_total.trans k l k (above k es r.0 r.1 l u h) (above l fs s.0 s.1 k t g)) refl)

rest_of : (k l m : List ℕ) (t u v : Tree) (es fs : Entries) → IsRising (entry k t es) → k ≡ l → Has es m v → Has (entry l u fs) m v → Has fs m v
rest_of k l m t u v es fs r e h (inl same) = absurd (never_below_itself k m (above k es r.0 r.1 m v h) (e ∙ same.0))
rest_of k l m t u v es fs r e h (inr more) = more

pub same_entries : (es fs : Entries) → IsRising es → IsRising fs → ((k : List ℕ) (t : Tree) → Has es k t → Has fs k t) → ((k : List ℕ) (t : Tree) → Has fs k t → Has es k t) → es ≡ fs
same_entries no_entries no_entries r s f g = refl
same_entries no_entries (entry l u fs) r s f g = absurd (g l u (inl (refl, refl)))
same_entries (entry k t es) no_entries r s f g = absurd (f k t (inl (refl, refl)))
same_entries (entry k t es) (entry l u fs) r s f g =
    let first = heads k l t u es fs r s (f k t (inl (refl, refl))) (g l u (inl (refl, refl))) in
    let more = same_entries es fs r.1 s.1
    (λ m v h. rest_of k l m t u v es fs r first.0 h (f m v (inr h)))
    (λ m v h. rest_of l k m u t v fs es s (sym first.0) h (g m v (inr h))) in
    λ i. entry (first.0 i) (first.1 i) (more i)

-- ---- what is put in is there, and the entries rise

Put : List ℕ → Tree → Entries → List ℕ → Tree → Type 0
Put k t es m v = ((k ≡ m) × (t ≡ v)) ⊎ Has es m v

has_put : (b : Bool) (k l m : List ℕ) (t u v : Tree) (es fs : Entries) → (Has fs m v → Put k t es m v) → Has (cond b (entry k t (entry l u es)) (entry l u fs)) m v → Put k t (entry l u es) m v
unfolding Put
has_put true k l m t u v es fs f h = h
has_put false k l m t u v es fs f (inl same) = inr (inl same)
has_put false k l m t u v es fs f (inr more) = elim (f more) [ inl x ↦ inl x | inr x ↦ inr (inr x) ]

has_insert : (k : List ℕ) (t : Tree) (es : Entries) (m : List ℕ) (v : Tree) → Has (insert k t es) m v → Put k t es m v
unfolding Put
has_insert k t no_entries m v h = h
has_insert k t (entry l u es) m v h = has_put (comes_before k l) k l m t u v es (insert k t es) (has_insert k t es m v) h

put_has : (b : Bool) (k l m : List ℕ) (t u v : Tree) (es fs : Entries) → (Put k t es m v → Has fs m v) → Put k t (entry l u es) m v → Has (cond b (entry k t (entry l u es)) (entry l u fs)) m v
unfolding Put
put_has true k l m t u v es fs f h = h
put_has false k l m t u v es fs f (inl same) = inr (f (inl same))
put_has false k l m t u v es fs f (inr (inl same)) = inl same
put_has false k l m t u v es fs f (inr (inr more)) = inr (f (inr more))

insert_has : (k : List ℕ) (t : Tree) (es : Entries) (m : List ℕ) (v : Tree) → Put k t es m v → Has (insert k t es) m v
unfolding Put
insert_has k t no_entries m v h = h
insert_has k t (entry l u es) m v h = put_has (comes_before k l) k l m t u v es (insert k t es) (insert_has k t es m v) h

precedes_put : (b : Bool) (j k l : List ℕ) (t u : Tree) (es fs : Entries) → comes_before j k ≡ true → comes_before j l ≡ true → Precedes j (cond b (entry k t (entry l u es)) (entry l u fs))
precedes_put true j k l t u es fs h g = h
precedes_put false j k l t u es fs h g = g

precedes_insert : (j k : List ℕ) (t : Tree) (es : Entries) → comes_before j k ≡ true → Precedes j es → Precedes j (insert k t es)
precedes_insert j k t no_entries h g = h
precedes_insert j k t (entry l u es) h g = precedes_put (comes_before k l) j k l t u es (insert k t es) h g

rising_put : (b : Bool) (k l : List ℕ) (t u : Tree) (es fs : Entries) → IsRising (entry l u es) → IsRising fs → (b ≡ true → comes_before k l ≡ true) → (b ≡ false → Precedes l fs) → IsRising (cond b (entry k t (entry l u es)) (entry l u fs))
rising_put true k l t u es fs r s f g = (f refl, r)
rising_put false k l t u es fs r s f g = (g refl, s)

pub rising_insert : (k : List ℕ) (t : Tree) (es : Entries) → IsRising es → ((l : List ℕ) (u : Tree) → Has es l u → key_cmp k l ≡ Equal → ⊥) → IsRising (insert k t es)
rising_insert k t no_entries r apart = (tt, tt)
rising_insert k t (entry l u es) r apart =
    rising_put (comes_before k l) k l t u es (insert k t es) r (rising_insert k t es r.1 (λ m v h. apart m v (inr h))) (λ e. e)
    (λ e. precedes_insert l k t es (ap is_lt (after_not_before k l e (apart l u (inl (refl, refl))))) r.0)

-- ---- lists of pairs

abbrev pub HasPair : List KeyAndTree → List ℕ → Tree → Type 0
HasPair [] k t = ⊥
HasPair (p ∷ ps) k t = ((p.0 ≡ k) × (p.1 ≡ t)) ⊎ HasPair ps k t

pub ordered_has : (ps : List KeyAndTree) (k : List ℕ) (t : Tree) → HasPair ps k t → Has (ordered_entries ps) k t
unfolding Put
ordered_has [] k t h = h
ordered_has (p ∷ ps) k t (inl same) = insert_has p.0 p.1 (ordered_entries ps) k t (inl same)
ordered_has (p ∷ ps) k t (inr more) = insert_has p.0 p.1 (ordered_entries ps) k t (inr (ordered_has ps k t more))

pub has_ordered : (ps : List KeyAndTree) (k : List ℕ) (t : Tree) → Has (ordered_entries ps) k t → HasPair ps k t
unfolding Put
has_ordered [] k t h = h
has_ordered (p ∷ ps) k t h = elim (has_insert p.0 p.1 (ordered_entries ps) k t h) [ inl same ↦ inl same | inr more ↦ inr (has_ordered ps k t more) ]

abbrev pub same_place : List ℕ → List ℕ → Bool
same_place k l = is_eq (key_cmp k l)

-- the keys are distinct
abbrev pub AreDistinct : List KeyAndTree → Type 0
AreDistinct ps = IsDistinct same_place (keys_of ps)

apart_from : (k : List ℕ) (ps : List KeyAndTree) → AllByRecursion (λ l. same_place k l ≡ false) (keys_of ps) → (l : List ℕ) (u : Tree) → HasPair ps l u → key_cmp k l ≡ Equal → ⊥
apart_from k [] d l u h e = h
apart_from k (p ∷ ps) d l u (inl same) e = let differ : true ≡ false = sym (ap is_eq e) ∙ ap (same_place k) (sym same.0) ∙ d.0 in absurd (cc differ)
apart_from k (p ∷ ps) d l u (inr more) e = apart_from k ps d.1 l u more e

pub rising_ordered : (ps : List KeyAndTree) → AreDistinct ps → IsRising (ordered_entries ps)
unfolding IsDistinct
rising_ordered [] d = tt
rising_ordered (p ∷ ps) d = rising_insert p.0 p.1 (ordered_entries ps) (rising_ordered ps d.1) (λ l u h. apart_from p.0 ps d.0 l u (has_ordered ps l u h))

-- ---- a sorted list of the same pairs

abbrev pub IsSortedList : List KeyAndTree → Type 0
IsSortedList ps = IsStrictlySortedBy key_cmp (keys_of ps)

distinct_from_below : (k : List ℕ) (ks : List (List ℕ)) → AllByRecursion (λ l. key_cmp k l ≡ Less) ks → AllByRecursion (λ l. same_place k l ≡ false) ks
distinct_from_below k [] h = tt
distinct_from_below k (l ∷ ks) h = (ap is_eq h.0, distinct_from_below k ks h.1)

distinct_from_sorted : (ks : List (List ℕ)) → IsStrictlySortedBy key_cmp ks → IsDistinct same_place ks
unfolding IsDistinct IsStrictlySortedBy
distinct_from_sorted [] h = tt
distinct_from_sorted (k ∷ ks) h = (distinct_from_below k ks h.0, distinct_from_sorted ks h.1)

in_front : (k : List ℕ) (t : Tree) (ps : List KeyAndTree) → AllByRecursion (λ l. key_cmp k l ≡ Less) (keys_of ps) → insert k t (entries_of ps) ≡ entry k t (entries_of ps)
in_front k t [] h = refl
in_front k t (p ∷ ps) h = ap (λ o. cond (is_lt o) (entry k t (entry p.0 p.1 (entries_of ps))) (entry p.0 p.1 (insert k t (entries_of ps)))) h.0

-- pairs that are sorted keep their order
pub ordered_sorted : (ps : List KeyAndTree) → IsSortedList ps → ordered_entries ps ≡ entries_of ps
unfolding IsStrictlySortedBy
ordered_sorted [] h = refl
ordered_sorted (p ∷ ps) h = ap (insert p.0 p.1) (ordered_sorted ps h.1) ∙ in_front p.0 p.1 ps h.0

has_from_contains : (ps : List KeyAndTree) (i : ℕ) (e : KeyAndTree) → i < length ps → get_or ps i e ≡ e → HasPair ps e.0 e.1
has_from_contains [] i e lt is = absurd (omega arith)
has_from_contains (p ∷ ps) zero e lt is = inl (ap (λ q. q.0) is, ap (λ q. q.1) is)
has_from_contains (p ∷ ps) (suc i) e lt is = inr (has_from_contains ps i e (omega arith) is)

contains_from_has : (ps : List KeyAndTree) (k : List ℕ) (t : Tree) → HasPair ps k t → Contains ps (k, t)
contains_from_has [] k t h = absurd h
contains_from_has (p ∷ ps) k t (inl same) = (0, omega arith, λ i. (same.0 i, same.1 i))
contains_from_has (p ∷ ps) k t (inr more) = let c = contains_from_has ps k t more in (suc c.0, omega (arith, c.1), c.2)

has_moved : (ps qs : List KeyAndTree) → IsPermutation ps qs → (k : List ℕ) (t : Tree) → HasPair ps k t → HasPair qs k t
has_moved ps qs moved k t h = let c = Contains-permutation ps qs (k, t) moved (contains_from_has ps k t h) in has_from_contains qs c.0 (k, t) c.1 c.2

-- pairs of distinct keys have one order, in whichever order they come
pub ordered_moved : (ps qs : List KeyAndTree) → AreDistinct ps → AreDistinct qs → IsPermutation ps qs → ordered_entries ps ≡ ordered_entries qs
ordered_moved ps qs d f moved = same_entries (ordered_entries ps) (ordered_entries qs) (rising_ordered ps d) (rising_ordered qs f)
    (λ k t h. ordered_has qs k t (has_moved ps qs moved k t (has_ordered ps k t h)))
    (λ k t h. ordered_has ps k t (has_moved qs ps (IsPermutation-sym ps qs moved) k t (has_ordered qs k t h)))

pub same_place_flips : (k l : List ℕ) → same_place k l ≡ same_place l k
same_place_flips k l = ap is_eq (key_cmp_total.antisymm k l) ∙ turned (key_cmp l k)
  where
    turned : (o : Ordering) → is_eq (ordering_reverse o) ≡ is_eq o
    turned Less = refl
    turned _ = refl

-- what a sort of the pairs gives is their order
pub ordered_by_sort : (ps qs : List KeyAndTree) → IsPermutation ps qs → IsSortedList qs → AreDistinct ps × (ordered_entries ps ≡ entries_of qs)
ordered_by_sort ps qs moved sorted =
    let there = distinct_from_sorted (keys_of qs) sorted in
    let here : AreDistinct ps = IsDistinct-IsPermutation same_place same_place_flips (keys_of qs) (keys_of ps) (IsPermutation-map (λ p. p.0) qs ps (IsPermutation-sym ps qs moved)) there in
    (here, ordered_moved ps qs here there moved ∙ ordered_sorted qs sorted)

-- ---- the test of a repeated key

all_apart : (k : List ℕ) (ps : List KeyAndTree) → has_key k ps ≡ false → AllByRecursion (λ l. same_place k l ≡ false) (keys_of ps)
all_apart k [] h = tt
all_apart k (p ∷ ps) h = let both = or_false _ _ h in (both.0, all_apart k ps both.1)

none_same : (k : List ℕ) (ps : List KeyAndTree) → AllByRecursion (λ l. same_place k l ≡ false) (keys_of ps) → has_key k ps ≡ false
none_same k [] h = refl
none_same k (p ∷ ps) h = ap₂ (λ a b. a || b) h.0 (none_same k ps h.1)

pub distinct_from_test : (ps : List KeyAndTree) → repeats_key ps ≡ false → AreDistinct ps
unfolding IsDistinct
distinct_from_test [] h = tt
distinct_from_test (p ∷ ps) h = let both = or_false _ _ h in (all_apart p.0 ps both.0, distinct_from_test ps both.1)

pub test_from_distinct : (ps : List KeyAndTree) → AreDistinct ps → repeats_key ps ≡ false
unfolding IsDistinct
test_from_distinct [] d = refl
test_from_distinct (p ∷ ps) d = ap₂ (λ a b. a || b) (none_same p.0 ps d.0) (test_from_distinct ps d.1)
