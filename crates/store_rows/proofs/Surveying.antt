-- What a walk over the index of names returns.
use Rattle.std.proofs.Common.{Bool, IsTrue, ◌≡◌, inl, inr, ℕ, ◌+◌, ℤ, List, [], ◌∷◌, ◌++◌, Less, is_lt, refl, sym, ap, ◌∙◌, subst, true≢false, length, arith, length-append, append_assoc, ◌⊎◌, ◌↔◌}
use Rattle.ipld_tree.specs.Cid.{IsCid}
use Rattle.std.specs.List.{AllByRecursion}
use Rattle.std.proofs.lemmas.Cmp.{tied_itself}
use Rattle.std.proofs.lemmas.Map.Lookups.{exact_bytes}
use Rattle.sqlite_value.specs.declared.value.Value.TheVariants.{Null, Blob}
use Rattle.sqlite_value.specs.Order.{Row, column, value_cmp}
use Rattle.sqlite_value.specs.Keys.{plain, entry_cmp}
use Rattle.sqlite_value.proofs.KeyLemmas.{entry_cmp_total}
use Rattle.sqlite_value.proofs.OrderLemmas.{value_cmp_total, value_cmp-Blob}
use Rattle.sqlite_trees.specs.Tree.{IsIndex, IsAscending}
use Rattle.ipld_links.specs.Sets.{Among}
use Rattle.store_rows.specs.Rows.{name_entry, IsNameEntry, AreNameEntries, IsKeyed}
use Rattle.store_rows.proofs.Finding.{all_among, names_rise}

abbrev pub BelowByName : Row → Row → Type 0
BelowByName a b = value_cmp (column a 0) (column b 0) ≡ Less

-- the names ascend
abbrev pub Rising : List Row → Type 0
Rising = IsAscending BelowByName

-- the last of the entries passed so far; before the first, a row without columns
abbrev pub IsLastOf : List Row → Row → Type 0
IsLastOf done last = ((done ≡ []) × (last ≡ [])) ⊎ ((front : List Row) × (done ≡ front ++ last ∷ []))

pub record Surveyed (entries left : List Row) (last : Row) (count : ℕ) : Type 0 where
  pub done : List Row
  pub whole : done ++ left ≡ entries
  pub counted : count ≡ length done
  pub are : AreNameEntries done
  pub rising : Rising done
  pub last_is : IsLastOf done last

pub named_blob : (bytes : List ℕ) (r : Bool) → IsTrue r ↔ IsCid bytes → IsTrue r ↔ ((name : List ℕ) × (Blob bytes ≡ Blob name) × IsCid name)
named_blob bytes r h = (λ t. (bytes, refl, h.0 t), λ n. h.1 (let same : bytes ≡ n.0 = cc n.1 in subst IsCid (sym same) n.2))

-- ---- lists

pub all_more : {X : Type 0} (P : X → Type 0) (xs : List X) (x : X) → AllByRecursion P xs → P x → AllByRecursion P (xs ++ x ∷ [])
all_more P [] x all h = (h, tt)
all_more P (y ∷ ys) x all h = (all.0, all_more P ys x all.1 h)

pub ascending_more : {X : Type 0} (R : X → X → Type 0) (xs : List X) (x : X) → IsAscending R xs → AllByRecursion (λ y. R y x) xs → IsAscending R (xs ++ x ∷ [])
ascending_more R [] x up all = (tt, tt)
ascending_more R (y ∷ ys) x up all = (all_more (R y) ys x up.0 all.0, ascending_more R ys x up.1 all.1)

pub among_middle : {X : Type 0} (front : List X) (x : X) (left : List X) → Among x (front ++ x ∷ left)
among_middle [] x left = inl refl
among_middle (y ∷ front) x left = inr (among_middle front x left)

pair_rises : (front : List Row) (a x : Row) (left : List Row) → IsIndex plain (front ++ a ∷ x ∷ left) → entry_cmp plain a x ≡ Less
pair_rises [] a x left up = up.0.0
pair_rises (y ∷ front) a x left up = pair_rises front a x left up.1

-- ---- names

below : (a x : Row) → IsNameEntry a → IsNameEntry x → entry_cmp plain a x ≡ Less → (column x 0 ≡ column a 0 → ⊥) → BelowByName a x
below a x p q up apart =
    let less : entry_cmp plain (name_entry p.0 p.1) (name_entry q.0 q.1) ≡ Less = subst (λ e. entry_cmp plain e (name_entry q.0 q.1) ≡ Less) p.2 (subst (λ e. entry_cmp plain a e ≡ Less) q.2 up) in
    elim (names_rise p.0 q.0 p.1 q.1 less) [
      | inl h ↦ ap (λ (e : Row). value_cmp (column e 0) (column x 0)) p.2 ∙ ap (λ (e : Row). value_cmp (Blob p.0) (column e 0)) q.2 ∙ value_cmp-Blob p.0 q.0 ∙ h
      | inr tied ↦ absurd (apart (ap (λ (e : Row). column e 0) q.2 ∙ ap Blob (sym (exact_bytes p.0 q.0 tied)) ∙ ap (λ (e : Row). column e 0) (sym p.2)))
    ]

all_below : (front : List Row) (a x : Row) → Rising (front ++ a ∷ []) → BelowByName a x → AllByRecursion (λ y. BelowByName y x) (front ++ a ∷ [])
all_below [] a x up h = (h, tt)
all_below (y ∷ front) a x up h = (value_cmp_total.trans (column y 0) (column a 0) (column x 0) (all_among (BelowByName y) a (front ++ a ∷ []) up.0 (among_middle front a [])) h, all_below front a x up.1 h)

pub survey_begun : (entries left : List Row) → left ≡ entries → Surveyed entries left [] 0
survey_begun entries left is = record { done = []; whole = is; counted = refl; are = tt; rising = tt; last_is = inl (refl, refl) }

pub survey_more : (entries left : List Row) (last x : Row) (count : ℕ) → IsIndex plain entries → Surveyed entries (x ∷ left) last count → IsNameEntry x → (column x 0 ≡ column last 0 → ⊥) → Surveyed entries left x (count + 1)
survey_more entries left last x count up s is apart = record {
  done = s.done ++ x ∷ [];
  whole = append_assoc s.done (x ∷ []) left ∙ s.whole;
  counted = omega (arith, s.counted, length-append s.done (x ∷ []));
  are = all_more IsNameEntry s.done x s.are is;
  rising = ascending_more BelowByName s.done x s.rising (by s.last_is);
  last_is = inr (s.done, refl);
}
  where
    by : IsLastOf s.done last → AllByRecursion (λ y. BelowByName y x) s.done
    by (inl none) = subst (AllByRecursion (λ y. BelowByName y x)) (sym none.0) tt
    by (inr h) =
        let front = h.0 in
        let all : IsIndex plain (front ++ last ∷ x ∷ left) = subst (IsIndex plain) (sym s.whole ∙ ap (λ d. d ++ x ∷ left) h.1 ∙ append_assoc front (last ∷ []) (x ∷ left)) up in
        let a = all_among IsNameEntry last s.done s.are (subst (Among last) (sym h.1) (among_middle front last [])) in
        subst (AllByRecursion (λ y. BelowByName y x)) (sym h.1) (all_below front last x (subst Rising h.1 s.rising) (below last x a is (pair_rises front last x left all) apart))

-- ---- at the end

once : (es : List Row) → Rising es → (q : List ℕ) (i j : ℤ) → Among (name_entry q i) es → Among (name_entry q j) es → i ≡ j
once [] up q i j a b = absurd a
once (e ∷ es) up q i j (inl a) (inl b) = let same : name_entry q i ≡ name_entry q j = a ∙ sym b in cc same
once (e ∷ es) up q i j (inl a) (inr b) = absurd (twice q (subst (λ x. BelowByName x (name_entry q j)) (sym a) (all_among (BelowByName e) (name_entry q j) es up.0 b)))
  where
    twice : (n : List ℕ) → value_cmp (Blob n) (Blob n) ≡ Less → ⊥
    twice n h = true≢false (sym (ap is_lt h) ∙ ap is_lt (tied_itself value_cmp_total (Blob n)))
once (e ∷ es) up q i j (inr a) (inl b) = absurd (twice q (subst (λ x. BelowByName x (name_entry q i)) (sym b) (all_among (BelowByName e) (name_entry q i) es up.0 a)))
  where
    twice : (n : List ℕ) → value_cmp (Blob n) (Blob n) ≡ Less → ⊥
    twice n h = true≢false (sym (ap is_lt h) ∙ ap is_lt (tied_itself value_cmp_total (Blob n)))
once (e ∷ es) up q i j (inr a) (inr b) = once es up.1 q i j a b

append_none : {X : Type 0} (xs : List X) → xs ++ [] ≡ xs
append_none [] = refl
append_none (x ∷ xs) = ap (λ l. x ∷ l) (append_none xs)

pub survey_done : (entries left : List Row) (last : Row) (count : ℕ) → left ≡ [] → Surveyed entries left last count → IsKeyed entries × (count ≡ length entries)
survey_done entries left last count none s =
    let whole : s.done ≡ entries = sym (append_none s.done) ∙ ap (λ l. s.done ++ l) (sym none) ∙ s.whole in
    subst (λ es. IsKeyed es × (count ≡ length es)) whole ((s.are, once s.done s.rising), s.counted)

same_blob : (m n : List ℕ) → Blob m ≡ Blob n → m ≡ n
same_blob m n e = cc e

pub survey_broken : (entries left : List Row) (last x : Row) (count : ℕ) → IsIndex plain entries → Surveyed entries (x ∷ left) last count → (IsNameEntry x → ⊥) ⊎ (column x 0 ≡ column last 0) → IsKeyed entries → ⊥
survey_broken entries left last x count up s (inl other) keyed = other (all_among IsNameEntry x entries keyed.0 (subst (Among x) s.whole (among_middle s.done x left)))
survey_broken entries left last x count up s (inr same) keyed = by s.last_is
  where
    q : IsNameEntry x
    q = all_among IsNameEntry x entries keyed.0 (subst (Among x) s.whole (among_middle s.done x left))

    by : IsLastOf s.done last → ⊥
    by (inl none) = let clash : Blob q.0 ≡ Null = ap (λ (e : Row). column e 0) (sym q.2) ∙ same ∙ ap (λ (e : Row). column e 0) none.1 in cc clash
    by (inr h) =
        let at : h.0 ++ last ∷ x ∷ left ≡ entries = sym (append_assoc h.0 (last ∷ []) (x ∷ left)) ∙ ap (λ d. d ++ x ∷ left) (sym h.1) ∙ s.whole in
        let here : Among last entries = subst (Among last) at (among_middle h.0 last (x ∷ left)) in
        let there : Among x entries = subst (Among x) s.whole (among_middle s.done x left) in
        let p = all_among IsNameEntry last entries keyed.0 here in
        let name : q.0 ≡ p.0 = same_blob q.0 p.0 (ap (λ (e : Row). column e 0) (sym q.2) ∙ same ∙ ap (λ (e : Row). column e 0) p.2) in
        let id : q.1 ≡ p.1 = keyed.1 p.0 q.1 p.1 (subst (λ e. Among e entries) (q.2 ∙ ap (λ n. name_entry n q.1) name) there) (subst (λ e. Among e entries) p.2 here) in
        let equal : x ≡ last = q.2 ∙ ap (λ n. name_entry n q.1) name ∙ ap (name_entry p.0) id ∙ sym p.2 in
        let less : entry_cmp plain last x ≡ Less = pair_rises h.0 last x left (subst (IsIndex plain) (sym at) up) in
        true≢false (sym (ap is_lt less) ∙ ap (λ e. is_lt (entry_cmp plain last e)) equal ∙ ap is_lt (tied_itself (entry_cmp_total plain) last))
