-- An entry after the last one, and what a `BTreeMap` makes of a key that follows all others.
use Rattle.std.proofs.Common.{◌≡◌, inl, inr, ℕ, ◌+◌, ◌≤◌, max, List, [], ◌∷◌, refl, sym, ap, ◌∙◌, subst, arith, String, Global, string_bytes, string_cmp, Ordering, Less, Equal, Greater, Option, Some, None, ◌⊎◌}
use Rattle.std.specs.BTreeMap.{insert_entry}
use Rattle.std.specs.List.Sorted.{IsStrictlySortedBy}
use Rattle.std.specs.Map.{keys_of}
use Rattle.std.specs.Ordering.{match_ordering}
use Rattle.std.proofs.lemmas.Map.Lookups.{exact_bytes}
use Rattle.ipld_tree.specs.Key.{bytes_cmp, key_cmp}
use Rattle.ipld_tree.specs.Tree.{Tree, text, Entries, no_entries, entry, Precedes, ordered_entries, any_need, entries_need}
use Rattle.ipld_tree.specs.Spelling.{entry_count, IsFront, AreEntryFronts}
use Rattle.ipld_tree.specs.Ipld.{tree_of, pairs_of}
use Rattle.ipld_tree.specs.declared.ipld.Ipld.{Ipld}
use Rattle.ipld_tree.proofs.Trees.{IpldEntry, pairs_of_insert_entry}
use Rattle.ipld_tree.proofs.Ordered.{KeyAndTree, IsRising, Has, HasPair, key_cmp_total, key_cmp_same, less_from_before, same_entries, rising_ordered, ordered_has, has_ordered}
use Rattle.ipld_tree.proofs.WellFormed.{distinct_entries}
use Rattle.ipld_tree.proofs.Fronts.{entry_opened, entry_closed, entries_after}
use Rattle.dagcbor_items.specs.Places.{Follows}
use Rattle.dagcbor_items.specs.Entries.{AllFollow}

-- the key of the last entry
unfoldable pub last_key : Entries → Option (List ℕ)
last_key no_entries = None
last_key (entry k t no_entries) = Some k
last_key (entry k t (entry l u es)) = last_key (entry l u es)

-- ---- an entry after the last one

unfoldable pub entry_push : Entries → List ℕ → Tree → Entries
entry_push no_entries k t = entry k t no_entries
entry_push (entry l u es) k t = entry l u (entry_push es k t)

rising_push : (es : Entries) (k : List ℕ) (t : Tree) → IsRising es → Follows (last_key es) k → IsRising (entry_push es k t)
unfolding entry_push last_key
rising_push no_entries k t r f = (tt, tt)
rising_push (entry l u no_entries) k t r f = (f, (tt, tt))
rising_push (entry l u (entry m v es)) k t r f = (r.0, rising_push (entry m v es) k t r.1 f)

-- a key that follows the last one is above all
above_all : (es : Entries) (k : List ℕ) → IsRising es → Follows (last_key es) k → (l : List ℕ) (u : Tree) → Has es l u → key_cmp l k ≡ Less
unfolding last_key
above_all no_entries k r f l u h = absurd h
above_all (entry m v no_entries) k r f l u (inl same) = ap (λ x. key_cmp x k) (sym same.0) ∙ less_from_before m k f
above_all (entry m v no_entries) k r f l u (inr h) = absurd h
above_all (entry m v (entry n w es)) k r f l u (inl same) =
    ap (λ x. key_cmp x k) (sym same.0) ∙ key_cmp_total.trans m n k (less_from_before m n r.0) (above_all (entry n w es) k r.1 f n w (inl (refl, refl)))
above_all (entry m v (entry n w es)) k r f l u (inr h) = above_all (entry n w es) k r.1 f l u h

push_has : (es : Entries) (k : List ℕ) (t : Tree) (l : List ℕ) (u : Tree) → ((k ≡ l) × (t ≡ u)) ⊎ Has es l u → Has (entry_push es k t) l u
unfolding entry_push
push_has no_entries k t l u (inl same) = inl same
push_has no_entries k t l u (inr h) = absurd h
push_has (entry m v es) k t l u (inl same) = inr (push_has es k t l u (inl same))
push_has (entry m v es) k t l u (inr (inl here)) = inl here
push_has (entry m v es) k t l u (inr (inr h)) = inr (push_has es k t l u (inr h))

has_push : (es : Entries) (k : List ℕ) (t : Tree) (l : List ℕ) (u : Tree) → Has (entry_push es k t) l u → ((k ≡ l) × (t ≡ u)) ⊎ Has es l u
unfolding entry_push
has_push no_entries k t l u (inl same) = inl same
has_push no_entries k t l u (inr h) = absurd h
has_push (entry m v es) k t l u (inl here) = inr (inl here)
has_push (entry m v es) k t l u (inr h) = elim (has_push es k t l u h) [ inl same ↦ inl same | inr more ↦ inr (inr more) ]

-- ---- a new key of a `BTreeMap`

Put : List ℕ → Tree → List KeyAndTree → List ℕ → Tree → Type 0
Put k t ps l u = ((k ≡ l) × (t ≡ u)) ⊎ HasPair ps l u

Fresh : List KeyAndTree → List ℕ → Type 0
Fresh ps k = (l : List ℕ) (u : Tree) → HasPair ps l u → k ≡ l → ⊥

insert_here : (o : Ordering) (p : KeyAndTree) (ps qs : List KeyAndTree) (k : List ℕ) (t : Tree) (l : List ℕ) (u : Tree) → (o ≡ Equal → k ≡ p.0) → Fresh (p ∷ ps) k → (HasPair qs l u → Put k t ps l u)
    → HasPair (match_ordering o ((k, t) ∷ p ∷ ps) ((p.0, t) ∷ ps) (p ∷ qs)) l u → Put k t (p ∷ ps) l u
unfolding Put Fresh
insert_here Less p ps qs k t l u e fresh more (inl same) = inl same
insert_here Less p ps qs k t l u e fresh more (inr g) = inr g
insert_here Equal p ps qs k t l u e fresh more g = absurd (fresh p.0 p.1 (inl (refl, refl)) (e refl))
insert_here Greater p ps qs k t l u e fresh more (inl same) = inr (inl same)
insert_here Greater p ps qs k t l u e fresh more (inr g) = elim (more g) [ inl same ↦ inl same | inr h ↦ inr (inr h) ]

insert_put : (ps : List KeyAndTree) (k : List ℕ) (t : Tree) → Fresh ps k → (l : List ℕ) (u : Tree) → HasPair (insert_entry bytes_cmp ps k t) l u → Put k t ps l u
unfolding Put Fresh
insert_put [] k t fresh l u (inl same) = inl same
insert_put [] k t fresh l u (inr h) = absurd h
insert_put (p ∷ ps) k t fresh l u h = insert_here (bytes_cmp k p.0) p ps (insert_entry bytes_cmp ps k t) k t l u (λ e. exact_bytes k p.0 e) fresh (insert_put ps k t (λ m v i. fresh m v (inr i)) l u) h

put_here : (o : Ordering) (p : KeyAndTree) (ps qs : List KeyAndTree) (k : List ℕ) (t : Tree) (l : List ℕ) (u : Tree) → (o ≡ Equal → k ≡ p.0) → Fresh (p ∷ ps) k → (Put k t ps l u → HasPair qs l u)
    → Put k t (p ∷ ps) l u → HasPair (match_ordering o ((k, t) ∷ p ∷ ps) ((p.0, t) ∷ ps) (p ∷ qs)) l u
unfolding Put Fresh
put_here Less p ps qs k t l u e fresh more (inl same) = inl same
put_here Less p ps qs k t l u e fresh more (inr g) = inr g
put_here Equal p ps qs k t l u e fresh more g = absurd (fresh p.0 p.1 (inl (refl, refl)) (e refl))
put_here Greater p ps qs k t l u e fresh more (inl same) = inr (more (inl same))
put_here Greater p ps qs k t l u e fresh more (inr (inl here)) = inl here
put_here Greater p ps qs k t l u e fresh more (inr (inr g)) = inr (more (inr g))

put_insert : (ps : List KeyAndTree) (k : List ℕ) (t : Tree) → Fresh ps k → (l : List ℕ) (u : Tree) → Put k t ps l u → HasPair (insert_entry bytes_cmp ps k t) l u
unfolding Put Fresh
put_insert [] k t fresh l u (inl same) = inl same
put_insert [] k t fresh l u (inr h) = absurd h
put_insert (p ∷ ps) k t fresh l u h = put_here (bytes_cmp k p.0) p ps (insert_entry bytes_cmp ps k t) k t l u (λ e. exact_bytes k p.0 e) fresh (put_insert ps k t (λ m v i. fresh m v (inr i)) l u) h

-- a key that follows the last one goes after it
pub ordered_push : (es new : List IpldEntry) (k : String Global) (j : Ipld) → new ≡ insert_entry string_cmp es k j → IsStrictlySortedBy string_cmp (keys_of es) → IsStrictlySortedBy string_cmp (keys_of new)
    → Follows (last_key (ordered_entries (pairs_of es))) (string_bytes k) → ordered_entries (pairs_of new) ≡ entry_push (ordered_entries (pairs_of es)) (string_bytes k) (tree_of j)
unfolding Put Fresh
ordered_push es new k j is sorted sorted_new f =
    let ps = pairs_of es in
    let key = string_bytes k in
    let t = tree_of j in
    let rising = rising_ordered ps (distinct_entries es sorted) in
    let put : pairs_of new ≡ insert_entry bytes_cmp ps key t = ap pairs_of is ∙ pairs_of_insert_entry es k j in
    let fresh : (l : List ℕ) (u : Tree) → HasPair ps l u → key ≡ l → ⊥ =
    λ l u h e. (let below = above_all (ordered_entries ps) key rising f l u (ordered_has ps l u h) in
    let differ : Equal ≡ Less = sym (key_cmp_same key) ∙ ap (λ x. key_cmp x key) e ∙ below in absurd (cc differ)) in
    same_entries (ordered_entries (pairs_of new)) (entry_push (ordered_entries ps) key t) (rising_ordered (pairs_of new) (distinct_entries new sorted_new)) (rising_push (ordered_entries ps) key t rising f)
    (λ l u h. push_has (ordered_entries ps) key t l u (elim (insert_put ps key t fresh l u (subst (λ qs. HasPair qs l u) put (has_ordered (pairs_of new) l u h))) [ inl same ↦ inl same | inr more ↦ inr (ordered_has ps l u more) ]))
    (λ l u h. ordered_has (pairs_of new) l u (subst (λ qs. HasPair qs l u) (sym put) (put_insert ps key t fresh l u (elim (has_push (ordered_entries ps) key t l u h) [ inl same ↦ inl same | inr more ↦ inr (has_ordered ps l u more) ]))))

-- ---- the fronts of entries

pub entry_count_push : (es : Entries) (k : List ℕ) (t : Tree) → entry_count (entry_push es k t) ≡ entry_count es + 1
unfolding entry_push
entry_count_push no_entries k t = omega arith
entry_count_push (entry l u es) k t = omega (arith, entry_count_push es k t)

pub entries_need_push : (es : Entries) (k : List ℕ) (t : Tree) → entries_need (entry_push es k t) ≡ max (entries_need es) (any_need t)
unfolding entry_push
entries_need_push no_entries k t = omega arith
entries_need_push (entry l u es) k t = omega (arith, entries_need_push es k t)

pub last_key_push : (es : Entries) (k : List ℕ) (t : Tree) → last_key (entry_push es k t) ≡ Some k
unfolding entry_push last_key
last_key_push no_entries k t = refl
last_key_push (entry l u no_entries) k t = refl
last_key_push (entry l u (entry m v es)) k t = last_key_push (entry m v es) k t

pub entries_push : (es : Entries) (k : List ℕ) (t : Tree) (b c d e : List ℕ) → AreEntryFronts b es c → IsFront c (text k) d → IsFront d t e → Follows (last_key es) k → AreEntryFronts b (entry_push es k t) e
unfolding entry_push last_key
entries_push no_entries k t b c d e h f g o =
    entry_closed b d e e k t no_entries (subst (λ x. IsFront x (text k) d) (sym h.is) f) g tt record { well_formed = tt; spellable = tt; is = refl }
entries_push (entry l u no_entries) k t b c d e h f g o =
    let p = entry_opened b c l u no_entries h in
    entry_closed b p.0 _ e l u (entry k t no_entries) p.1 p.2 o (entries_push no_entries k t _ c d e p.4 f g tt)
entries_push (entry l u (entry m v es)) k t b c d e h f g o =
    let p = entry_opened b c l u (entry m v es) h in
    entry_closed b p.0 _ e l u (entry m v (entry_push es k t)) p.1 p.2 p.3 (entries_push (entry m v es) k t _ c d e p.4 f g o)

-- the entries of a row that are left after those that were read
pub record EntriesLeft (fs es : Entries) (c rest : List ℕ) : Type 0 where
  pub others : Entries
  pub fronts : AreEntryFronts c others rest
  pub counted : entry_count fs ≡ entry_count es + entry_count others
  pub within : entries_need others ≤ entries_need fs
  pub follows : AllFollow (last_key es) others

pub entries_left : (es fs : Entries) (b c rest : List ℕ) → AreEntryFronts b es c → AreEntryFronts b fs rest → entry_count es ≤ entry_count fs → EntriesLeft fs es c rest
unfolding last_key
entries_left no_entries fs b c rest h k fewer = record { others = fs; fronts = subst (λ x. AreEntryFronts x fs rest) h.is k; counted = omega arith; within = omega arith; follows = tt }
entries_left (entry l u es) no_entries b c rest h k fewer = absurd (omega arith)
entries_left (entry l u no_entries) (entry m v fs) b c rest h k fewer =
    let p = entry_opened b c l u no_entries h in
    let a = entries_after b p.0 _ rest l m u v fs p.1 p.2 k in
    record { others = fs; fronts = subst (λ x. AreEntryFronts x fs rest) p.4.is a.3; counted = omega arith; within = omega arith; follows = subst (λ x. Precedes x fs) a.0 a.2 }
entries_left (entry l u (entry n w es)) (entry m v fs) b c rest h k fewer =
    let p = entry_opened b c l u (entry n w es) h in
    let a = entries_after b p.0 _ rest l m u v fs p.1 p.2 k in
    let more = entries_left (entry n w es) fs _ c rest p.4 a.3 (omega arith) in
    record { others = more.others; fronts = more.fronts; counted = omega (arith, more.counted); within = omega (arith, more.within); follows = more.follows }

pub pushed_as : (es fs : Entries) (k l : List ℕ) (t : Tree) → k ≡ l → fs ≡ entry_push es k t → fs ≡ entry_push es l t
pushed_as es fs k l t e h = subst (λ x. fs ≡ entry_push es x t) e h
