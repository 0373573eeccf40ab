-- Members in the order of the bytes of their keys.
use Rattle.std.proofs.Common.{◌≡◌, ◌⊎◌, inl, inr, ℕ, List, [], ◌∷◌, Bool, true, false, cond, Ordering, Less, Equal, Greater, map, refl, sym, ap, ◌∙◌, true≢false, is_lt}
use Rattle.std.proofs.lemmas.Cmp.{nat_list_cmp_total}
use Rattle.std.specs.List.{AllByRecursion}
use Rattle.std.specs.List.Sorted.{IsStrictlySortedBy}
use Rattle.std.specs.Map.{keys_of}
use Rattle.std.specs.Ordering.{ordering_reverse}
use Rattle.ipld_tree.specs.Key.{bytes_cmp, comes_before}
use Rattle.ipld_tree.specs.Tree.{Tree, Entries, no_entries, entry, insert, ordered_entries}
use Rattle.text_dag_json.specs.DagJson.{Member, put_member, by_bytes, dag_json, entry_texts}

less : (o : Ordering) → is_lt o ≡ true → o ≡ Less
less Less e = refl
less Equal e = absurd (true≢false (sym e))
less Greater e = absurd (true≢false (sym e))

before : List ℕ → List ℕ → Bool
before k l = is_lt (bytes_cmp k l)

before_trans : (k l m : List ℕ) → before k l ≡ true → before l m ≡ true → before k m ≡ true
unfolding before
before_trans k l m h g = ap is_lt (nat_list_cmp_total.trans k l m (less (bytes_cmp k l) h) (less (bytes_cmp l m) g))

-- of two different keys, one is before the other
one_before : (k l : List ℕ) → (bytes_cmp k l ≡ Equal → ⊥) → ((before k l ≡ true) × (before l k ≡ false)) ⊎ ((before k l ≡ false) × (before l k ≡ true))
unfolding before
one_before k l apart = by (bytes_cmp k l) refl
  where
    by : (o : Ordering) → bytes_cmp k l ≡ o → ((is_lt (bytes_cmp k l) ≡ true) × (is_lt (bytes_cmp l k) ≡ false)) ⊎ ((is_lt (bytes_cmp k l) ≡ false) × (is_lt (bytes_cmp l k) ≡ true))
    by Less e = inl (ap is_lt e, ap is_lt (nat_list_cmp_total.antisymm l k ∙ ap ordering_reverse e))
    by Equal e = absurd (apart e)
    by Greater e = inr (ap is_lt e, ap is_lt (nat_list_cmp_total.antisymm l k ∙ ap ordering_reverse e))

put_here : (p q : Member) (qs : List Member) → before p.0 q.0 ≡ true → put_member p (q ∷ qs) ≡ p ∷ q ∷ qs
unfolding before
put_here p q qs h = ap (λ b. cond b (p ∷ q ∷ qs) (q ∷ put_member p qs)) h

put_later : (p q : Member) (qs : List Member) → before p.0 q.0 ≡ false → put_member p (q ∷ qs) ≡ q ∷ put_member p qs
unfolding before
put_later p q qs h = ap (λ b. cond b (p ∷ q ∷ qs) (q ∷ put_member p qs)) h

cases : (b : Bool) → (b ≡ true) ⊎ (b ≡ false)
cases true = inl refl
cases false = inr refl

-- two entries put in either order give the same result
put_both : (p q : Member) (ms : List Member) → before p.0 q.0 ≡ true → before q.0 p.0 ≡ false → put_member p (put_member q ms) ≡ put_member q (put_member p ms)
put_both p q [] h g = put_here p q [] h ∙ sym (put_later q p [] g)
put_both p q (m ∷ ms) h g = by (cases (before q.0 m.0)) (cases (before p.0 m.0)) (put_both p q ms h g)
  where
    by : (before q.0 m.0 ≡ true) ⊎ (before q.0 m.0 ≡ false) → (before p.0 m.0 ≡ true) ⊎ (before p.0 m.0 ≡ false) → put_member p (put_member q ms) ≡ put_member q (put_member p ms) → put_member p (put_member q (m ∷ ms)) ≡ put_member q (put_member p (m ∷ ms))
    by (inl qm) (inl pm) more = ap (put_member p) (put_here q m ms qm) ∙ put_here p q (m ∷ ms) h ∙ sym (ap (put_member q) (put_here p m ms pm) ∙ put_later q p (m ∷ ms) g ∙ ap (λ x. p ∷ x) (put_here q m ms qm))
    by (inl qm) (inr pm) more = absurd (true≢false (sym (before_trans p.0 q.0 m.0 h qm) ∙ pm))
    by (inr qm) (inl pm) more = ap (put_member p) (put_later q m ms qm) ∙ put_here p m (put_member q ms) pm ∙ sym (ap (put_member q) (put_here p m ms pm) ∙ put_later q p (m ∷ ms) g ∙ ap (λ x. p ∷ x) (put_later q m ms qm))
    by (inr qm) (inr pm) more = ap (put_member p) (put_later q m ms qm) ∙ put_later p m (put_member q ms) pm ∙ ap (λ x. m ∷ x) more ∙ sym (ap (put_member q) (put_later p m ms pm) ∙ put_later q m (put_member p ms) qm)

put_twice : (p q : Member) (ms : List Member) → (bytes_cmp p.0 q.0 ≡ Equal → ⊥) → put_member p (put_member q ms) ≡ put_member q (put_member p ms)
put_twice p q ms apart = elim (one_before p.0 q.0 apart) [
  | inl h ↦ put_both p q ms h.0 h.1
  | inr h ↦ sym (put_both q p ms h.1 h.0)
]

-- ---- entries of a map

-- P holds of each key
abbrev EachKey : (List ℕ → Type 0) → Entries → Type 0
EachKey P no_entries = Unit {0}
EachKey P (entry k t es) = P k × EachKey P es

each_insert : (P : List ℕ → Type 0) (k : List ℕ) (t : Tree) (es : Entries) → P k → EachKey P es → EachKey P (insert k t es)
each_insert P k t no_entries h g = (h, tt)
each_insert P k t (entry l u es) h g = by (comes_before k l) (each_insert P k t es h g.1)
  where
    by : (b : Bool) → EachKey P (insert k t es) → EachKey P (cond b (entry k t (entry l u es)) (entry l u (insert k t es)))
    by true more = (h, g)
    by false more = (g.0, more)

each_ordered : (P : List ℕ → Type 0) (ps : List (List ℕ × Tree)) → AllByRecursion P (keys_of ps) → EachKey P (ordered_entries ps)
each_ordered P [] h = tt
each_ordered P (p ∷ ps) h = each_insert P p.0 p.1 (ordered_entries ps) h.0 (each_ordered P ps h.1)

-- an entry that is put in among those of other keys
insert_texts : (k : List ℕ) (t : Tree) (es : Entries) → EachKey (λ l. bytes_cmp k l ≡ Less) es → by_bytes (entry_texts (insert k t es)) ≡ put_member (k, dag_json t) (by_bytes (entry_texts es))
unfolding dag_json
insert_texts k t no_entries h = refl
insert_texts k t (entry l u es) h = by (comes_before k l) (insert_texts k t es h.1)
  where
    apart : bytes_cmp k l ≡ Equal → ⊥
    apart e = let clash : Less ≡ Equal = sym h.0 ∙ e in cc clash

    by : (b : Bool) → by_bytes (entry_texts (insert k t es)) ≡ put_member (k, dag_json t) (by_bytes (entry_texts es)) → by_bytes (entry_texts (cond b (entry k t (entry l u es)) (entry l u (insert k t es)))) ≡ put_member (k, dag_json t) (put_member (l, dag_json u) (by_bytes (entry_texts es)))
    by true more = refl
    by false more = ap (put_member (l, dag_json u)) more ∙ sym (put_twice (k, dag_json t) (l, dag_json u) (by_bytes (entry_texts es)) apart)

abbrev pub members : List (List ℕ × Tree) → List Member
members ps = map (λ p. (p.0, dag_json p.1)) ps

first_put : (p : Member) (ps : List (List ℕ × Tree)) → AllByRecursion (λ l. bytes_cmp p.0 l ≡ Less) (keys_of ps) → put_member p (members ps) ≡ p ∷ members ps
unfolding before
first_put p [] h = refl
first_put p (q ∷ qs) h = put_here p (q.0, dag_json q.1) (members qs) (ap is_lt h.0)

-- a map's entries in the order of bytes are its pairs in the order that they have there
pub sorted_members : (ps : List (List ℕ × Tree)) → IsStrictlySortedBy bytes_cmp (keys_of ps) → by_bytes (entry_texts (ordered_entries ps)) ≡ members ps
unfolding dag_json IsStrictlySortedBy
sorted_members [] h = refl
sorted_members (p ∷ ps) h =
    insert_texts p.0 p.1 (ordered_entries ps) (each_ordered (λ l. bytes_cmp p.0 l ≡ Less) ps h.0)
    ∙ ap (put_member (p.0, dag_json p.1)) (sorted_members ps h.1)
    ∙ first_put (p.0, dag_json p.1) ps h.0
