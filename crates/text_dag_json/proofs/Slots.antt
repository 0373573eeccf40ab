-- Keys that are put among others, in whichever order they come.
use Rattle.std.proofs.Common.{◌≡◌, ◌⊎◌, inl, inr, ℕ, List, [], ◌∷◌, Bool, true, false, cond, ◌||◌, Ordering, Less, Equal, Greater, refl, sym, ap, ◌∙◌, true≢false, is_some, Some, string_bytes, is_eq, is_lt}
use Rattle.std.proofs.lemmas.Cmp.{nat_list_cmp_total, tied_itself}
use Rattle.std.proofs.lemmas.Map.Lookups.{exact_bytes}
use Rattle.std.specs.BTreeMap.{insert_entry, is_at}
use Rattle.std.specs.Map.{lookup}
use Rattle.std.specs.Ordering.{match_ordering}
use Rattle.ipld_tree.specs.Key.{bytes_cmp, key_cmp, comes_before}
use Rattle.ipld_tree.specs.Tree.{Tree, Entries, no_entries, entry, insert, ordered_entries, has_key}
use Rattle.ipld_tree.specs.Ipld.{pairs_of}
use Rattle.ipld_tree.proofs.KeyOrder.{same_key}
use Rattle.ipld_tree.proofs.Ordered.{key_cmp_total, key_cmp_same, less_from_before, after_not_before}
use Rattle.ipld_tree.proofs.Trees.{IpldEntry}

abbrev pub KeyAndTree : Type 0
KeyAndTree = List ℕ × Tree

pub bytes_same : (k : List ℕ) → bytes_cmp k k ≡ Equal
bytes_same k = tied_itself nat_list_cmp_total k

-- the two orders tie the same keys
pub ties_alike : (k l : List ℕ) → is_eq (key_cmp k l) ≡ is_eq (bytes_cmp k l)
ties_alike k l = by (key_cmp k l) (bytes_cmp k l) refl refl
  where
    by : (a b : Ordering) → key_cmp k l ≡ a → bytes_cmp k l ≡ b → is_eq a ≡ is_eq b
    by Less Less e f = refl
    by Less Equal e f = let clash : Less ≡ Equal = sym e ∙ ap (key_cmp k) (sym (exact_bytes k l f)) ∙ key_cmp_same k in absurd (cc clash)
    by Less Greater e f = refl
    by Equal Less e f = let clash : Less ≡ Equal = sym f ∙ ap (bytes_cmp k) (sym (same_key k l e)) ∙ bytes_same k in absurd (cc clash)
    by Equal Equal e f = refl
    by Equal Greater e f = let clash : Greater ≡ Equal = sym f ∙ ap (bytes_cmp k) (sym (same_key k l e)) ∙ bytes_same k in absurd (cc clash)
    by Greater Less e f = refl
    by Greater Equal e f = let clash : Greater ≡ Equal = sym e ∙ ap (key_cmp k) (sym (exact_bytes k l f)) ∙ key_cmp_same k in absurd (cc clash)
    by Greater Greater e f = refl

-- what a `BTreeMap` finds is among the keys
pub is_found : (k : List ℕ) (es : List IpldEntry) → is_some (lookup (is_at (λ l. bytes_cmp k (string_bytes l))) es) ≡ has_key k (pairs_of es)
is_found k [] = refl
is_found k (e ∷ es) = ap (λ b. is_some (cond b (Some e.1) (lookup (is_at (λ l. bytes_cmp k (string_bytes l))) es))) (sym (ties_alike k (string_bytes e.0))) ∙ by (is_eq (key_cmp k (string_bytes e.0))) (is_found k es)
  where
    by : (b : Bool) → is_some (lookup (is_at (λ l. bytes_cmp k (string_bytes l))) es) ≡ has_key k (pairs_of es) → is_some (cond b (Some e.1) (lookup (is_at (λ l. bytes_cmp k (string_bytes l))) es)) ≡ (b || has_key k (pairs_of es))
    by true more = refl
    by false more = more

-- ---- two that are put in

cases : (b : Bool) → (b ≡ true) ⊎ (b ≡ false)
cases true = inl refl
cases false = inr refl

goes_here : (k l : List ℕ) (t u : Tree) (es : Entries) → comes_before k l ≡ true → insert k t (entry l u es) ≡ entry k t (entry l u es)
goes_here k l t u es h = ap (λ b. cond b (entry k t (entry l u es)) (entry l u (insert k t es))) h

goes_later : (k l : List ℕ) (t u : Tree) (es : Entries) → comes_before k l ≡ false → insert k t (entry l u es) ≡ entry l u (insert k t es)
goes_later k l t u es h = ap (λ b. cond b (entry k t (entry l u es)) (entry l u (insert k t es))) h

before_trans : (k l m : List ℕ) → comes_before k l ≡ true → comes_before l m ≡ true → comes_before k m ≡ true
before_trans k l m h g = ap is_lt (key_cmp_total.trans k l m (less_from_before k l h) (less_from_before l m g))

insert_both : (k l : List ℕ) (t u : Tree) (es : Entries) → comes_before k l ≡ true → comes_before l k ≡ false → insert k t (insert l u es) ≡ insert l u (insert k t es)
insert_both k l t u no_entries h g = goes_here k l t u no_entries h ∙ sym (goes_later l k u t no_entries g)
insert_both k l t u (entry m v es) h g = by (cases (comes_before l m)) (cases (comes_before k m)) (insert_both k l t u es h g)
  where
    by : (comes_before l m ≡ true) ⊎ (comes_before l m ≡ false) → (comes_before k m ≡ true) ⊎ (comes_before k m ≡ false) → insert k t (insert l u es) ≡ insert l u (insert k t es) → insert k t (insert l u (entry m v es)) ≡ insert l u (insert k t (entry m v es))
    by (inl lm) (inl km) more = ap (insert k t) (goes_here l m u v es lm) ∙ goes_here k l t u (entry m v es) h ∙ sym (ap (insert l u) (goes_here k m t v es km) ∙ goes_later l k u t (entry m v es) g ∙ ap (entry k t) (goes_here l m u v es lm))
    by (inl lm) (inr km) more = absurd (true≢false (sym (before_trans k l m h lm) ∙ km))
    by (inr lm) (inl km) more = ap (insert k t) (goes_later l m u v es lm) ∙ goes_here k m t v (insert l u es) km ∙ sym (ap (insert l u) (goes_here k m t v es km) ∙ goes_later l k u t (entry m v es) g ∙ ap (entry k t) (goes_later l m u v es lm))
    by (inr lm) (inr km) more = ap (insert k t) (goes_later l m u v es lm) ∙ goes_later k m t v (insert l u es) km ∙ ap (entry m v) more ∙ sym (ap (insert l u) (goes_later k m t v es km) ∙ goes_later l m u v (insert k t es) lm)

not_back : (k l : List ℕ) → comes_before k l ≡ true → comes_before l k ≡ false
not_back k l h = by (cases (comes_before l k))
  where
    by : (comes_before l k ≡ true) ⊎ (comes_before l k ≡ false) → comes_before l k ≡ false
    by (inl back) = let itself : true ≡ false = sym (before_trans k l k h back) ∙ ap is_lt (key_cmp_same k) in absurd (true≢false itself)
    by (inr later) = later

pub insert_twice : (k l : List ℕ) (t u : Tree) (es : Entries) → (key_cmp k l ≡ Equal → ⊥) → insert k t (insert l u es) ≡ insert l u (insert k t es)
insert_twice k l t u es apart = by (cases (comes_before k l))
  where
    by : (comes_before k l ≡ true) ⊎ (comes_before k l ≡ false) → insert k t (insert l u es) ≡ insert l u (insert k t es)
    by (inl h) = insert_both k l t u es h (not_back k l h)
    by (inr h) = let back : comes_before l k ≡ true = ap is_lt (after_not_before k l h apart) in sym (insert_both l k u t es back h)

-- ---- a new key in a sorted list of pairs

or_false : (a b : Bool) → (a || b) ≡ false → (a ≡ false) × (b ≡ false)
or_false true b h = absurd cc
or_false false b h = (refl, h)

pub or_swap : (a b c : Bool) → (a || (b || c)) ≡ (b || (a || c))
or_swap true true c = refl
or_swap _ _ c = refl

not_tied : (k l : List ℕ) → is_eq (key_cmp k l) ≡ false → key_cmp k l ≡ Equal → ⊥
not_tied k l h e = true≢false (sym (ap is_eq e) ∙ h)

pub ordered_insert : (ps : List KeyAndTree) (k : List ℕ) (t : Tree) → has_key k ps ≡ false → ordered_entries (insert_entry bytes_cmp ps k t) ≡ insert k t (ordered_entries ps)
ordered_insert [] k t h = refl
ordered_insert (p ∷ ps) k t h = by (bytes_cmp k p.0) refl (ordered_insert ps k t (or_false _ _ h).1)
  where
    by : (o : Ordering) → bytes_cmp k p.0 ≡ o → ordered_entries (insert_entry bytes_cmp ps k t) ≡ insert k t (ordered_entries ps)
        → ordered_entries (match_ordering o ((k, t) ∷ p ∷ ps) ((p.0, t) ∷ ps) (p ∷ insert_entry bytes_cmp ps k t)) ≡ insert k t (insert p.0 p.1 (ordered_entries ps))
    by Less e more = refl
    by Equal e more = absurd (true≢false (sym (ties_alike k p.0 ∙ ap is_eq e) ∙ (or_false _ _ h).0))
    by Greater e more = ap (insert p.0 p.1) more ∙ sym (insert_twice k p.0 t p.1 (ordered_entries ps) (not_tied k p.0 (or_false _ _ h).0))

pub has_key_insert : (ps : List KeyAndTree) (k : List ℕ) (t : Tree) (q : List ℕ) → has_key k ps ≡ false → has_key q (insert_entry bytes_cmp ps k t) ≡ (is_eq (key_cmp q k) || has_key q ps)
has_key_insert [] k t q h = refl
has_key_insert (p ∷ ps) k t q h = by (bytes_cmp k p.0) refl (has_key_insert ps k t q (or_false _ _ h).1)
  where
    by : (o : Ordering) → bytes_cmp k p.0 ≡ o → has_key q (insert_entry bytes_cmp ps k t) ≡ (is_eq (key_cmp q k) || has_key q ps)
        → has_key q (match_ordering o ((k, t) ∷ p ∷ ps) ((p.0, t) ∷ ps) (p ∷ insert_entry bytes_cmp ps k t)) ≡ (is_eq (key_cmp q k) || (is_eq (key_cmp q p.0) || has_key q ps))
    by Less e more = refl
    by Equal e more = absurd (true≢false (sym (ties_alike k p.0 ∙ ap is_eq e) ∙ (or_false _ _ h).0))
    by Greater e more = ap (λ b. is_eq (key_cmp q p.0) || b) more ∙ or_swap (is_eq (key_cmp q p.0)) (is_eq (key_cmp q k)) (has_key q ps)
