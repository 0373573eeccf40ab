-- What a seek in the index of names finds.
use Rattle.std.proofs.Common.{◌≡◌, inl, inr, ℕ, ℤ, List, [], ◌∷◌, Bool, true, false, cond, Less, Equal, is_lt, refl, sym, ap, ◌∙◌, subst, true≢false, length, arith, ◌⊎◌, ◌≢◌, Option, None, Some, MatchOption, Result, Ok, Err}
use Rattle.std.specs.List.{AllByRecursion}
use Rattle.std.proofs.lemmas.Cmp.{tied_itself, nat_list_cmp_total}
use Rattle.sqlite_value.specs.declared.value.Value.{Value}
use Rattle.sqlite_value.specs.declared.value.Value.TheVariants.{Int, Blob}
use Rattle.sqlite_value.specs.Order.{Row, column, value_cmp}
use Rattle.sqlite_value.specs.Keys.{plain, entry_cmp, prefix_cmp}
use Rattle.sqlite_value.proofs.KeyLemmas.{first_key-plain, then_below}
use Rattle.sqlite_value.proofs.OrderLemmas.{value_cmp-Blob}
use Rattle.sqlite_trees.specs.declared.store.Shape.TheVariants as shape
use Rattle.sqlite_trees.specs.declared.store.Direction.TheVariants.{Forward}
use Rattle.sqlite_trees.specs.View.{View, Advances, with_cursor, IsShaped, IsOrdered}
use Rattle.sqlite_exec.specs.Loops.{left_of}
use Rattle.sqlite_exec.proofs.CheckLemmas.{placed, stepped, ended}
use Rattle.sqlite_trees.specs.Tree.{IsIndex, from_key, sought, order_of}
use Rattle.sqlite_trees.proofs.TreeLemmas.{prefix_cmp-one}
use Rattle.std.proofs.lemmas.Map.Lookups.{exact_bytes}
use Rattle.ipld_links.specs.Sets.{Among}
use Rattle.store_rows.specs.Rows.{name_tree, name_entry, IsOther, IsListed, IsNameEntry, AreNameEntries, FindsName, name_cmp, EntersName, FindsFirst, SeeksEntry}
use Rattle.ipld_tree.specs.declared.cid_error.CidError.{CidError}
use Rattle.ipld_tree.specs.Cid.{CidParts, cid_bytes}

pub all_among : {X : Type 0} (P : X → Type 0) (x : X) (xs : List X) → AllByRecursion P xs → Among x xs → P x
all_among P x [] all h = absurd h
all_among P x (y ∷ ys) all (inl same) = subst P (sym same) all.0
all_among P x (y ∷ ys) all (inr more) = all_among P x ys all.1 more

pub two_columns : (e : Row) (a b : Value) → length e ≡ 2 → column e 0 ≡ a → column e 1 ≡ b → e ≡ a ∷ b ∷ []
two_columns [] a b two p q = cc
two_columns (x ∷ []) a b two p q = absurd (omega (arith, two))
two_columns (x ∷ y ∷ []) a b two p q = rw (p, q)
two_columns (x ∷ y ∷ z ∷ more) a b two p q = absurd (omega (arith, two))

-- a row with other columns is not an entry of the name
pub no_entry : (name : List ℕ) (e : Row) → ((length e ≡ 2) × (column e 0 ≡ Blob name) × ((id : ℤ) → column e 1 ≢ Int id)) ⊎ ((length e ≢ 2) ⊎ (column e 0 ≢ Blob name)) → IsOther name (e ∷ [])
no_entry name e (inl h) id same = h.2 id (rw same)
no_entry name e (inr (inl h)) id same = h (rw same)
no_entry name e (inr (inr h)) id same = h (rw same)

-- an entry compared with the key of a name
pub entry_key : (m n : List ℕ) (i : ℤ) → prefix_cmp plain (name_entry m i) (Blob n ∷ []) ≡ name_cmp m n
entry_key m n i = prefix_cmp-one (Blob m) (Int i ∷ []) (Blob n) ∙ value_cmp-Blob m n

pub names_rise : (m n : List ℕ) (i j : ℤ) → entry_cmp plain (name_entry m i) (name_entry n j) ≡ Less → (name_cmp m n ≡ Less) ⊎ (name_cmp m n ≡ Equal)
names_rise m n i j h = elim (then_below (value_cmp (Blob m) (Blob n)) _ (rw first_key-plain at h)) [
  | inl below ↦ inl (sym (value_cmp-Blob m n) ∙ below)
  | inr tied ↦ inr (sym (value_cmp-Blob m n) ∙ tied.0)
]

-- if an entry is not below the name, and a later one is of the name, the first is too
none_later : (m n : List ℕ) (i j : ℤ) → is_lt (name_cmp m n) ≡ false → (name_cmp m n ≡ Less) ⊎ (name_cmp m n ≡ Equal) → m ≡ n
none_later m n i j at (inl below) = absurd (true≢false (sym (ap is_lt below) ∙ at))
none_later m n i j at (inr tied) = exact_bytes m n tied

module _ (name : List ℕ) where
  pub not_listed : (es : List Row) → IsIndex plain es → AreNameEntries es → IsOther name (from_key plain (Blob name ∷ []) es) → IsListed es name → ⊥
  not_listed [] up are other h = h.1
  not_listed (e ∷ es) up are other h = by (is_lt (prefix_cmp plain e (Blob name ∷ []))) refl other (not_listed es up.1 are.1)
    where
      m : List ℕ
      m = are.0.0

      is : e ≡ name_entry m are.0.1
      is = are.0.2

      same : prefix_cmp plain e (Blob name ∷ []) ≡ name_cmp m name
      same = ap (λ (x : Row). prefix_cmp plain x (Blob name ∷ [])) is ∙ entry_key m name are.0.1

      by : (b : Bool) → is_lt (prefix_cmp plain e (Blob name ∷ [])) ≡ b → IsOther name (cond b (from_key plain (Blob name ∷ []) es) (e ∷ es))
          → (IsOther name (from_key plain (Blob name ∷ []) es) → IsListed es name → ⊥) → ⊥
      by true t o more = elim h.1 [
        | inl here ↦
            let tied : prefix_cmp plain e (Blob name ∷ []) ≡ Equal = ap (λ (x : Row). prefix_cmp plain x (Blob name ∷ [])) (sym here) ∙ entry_key name name h.0 ∙ tied_itself nat_list_cmp_total name in
            true≢false (sym t ∙ ap is_lt tied)
        | inr later ↦ more o (h.0, later)
      ]
      by false t o more = elim h.1 [
        | inl here ↦ o h.0 (sym here)
        | inr later ↦
            let below = subst (λ x. entry_cmp plain x (name_entry name h.0) ≡ Less) is (all_among (λ f. entry_cmp plain e f ≡ Less) (name_entry name h.0) es up.0 later) in
            let eq = none_later m name are.0.1 h.0 (ap is_lt (sym same) ∙ t) (names_rise m name are.0.1 h.0 below) in
            o are.0.1 (is ∙ ap (λ n. name_entry n are.0.1) eq)
      ]

  pub first_is_among : (es left : List Row) (e : Row) → from_key plain (Blob name ∷ []) es ≡ e ∷ left → Among e es
  first_is_among [] left e h = cc
  first_is_among (x ∷ es) left e h = by (is_lt (prefix_cmp plain x (Blob name ∷ []))) h (first_is_among es left e)
    where
      by : (b : Bool) → cond b (from_key plain (Blob name ∷ []) es) (x ∷ es) ≡ e ∷ left → (from_key plain (Blob name ∷ []) es ≡ e ∷ left → Among e es) → Among e (x ∷ es)
      by true h more = inr (more h)
      by false h more = inl (let same : x ≡ e = cc h in sym same)

  pub finds_name : (es left : List Row) (e : Row) (found : Option ℤ) → IsIndex plain es → from_key plain (Blob name ∷ []) es ≡ e ∷ left
      → MatchOption found (IsOther name (e ∷ [])) (λ id. e ≡ name_entry name id) → FindsName es name found
  finds_name es left e None up h other = λ are. not_listed es up are (subst (IsOther name) (sym h) other)
  finds_name es left e (Some id) up h is = subst (λ x. Among x es) is (first_is_among es left e h)

  pub finds_none : (es : List Row) → IsIndex plain es → from_key plain (Blob name ∷ []) es ≡ [] → FindsName es name None
  finds_none es up h = λ are. not_listed es up are (subst (IsOther name) (sym h) tt)

-- ---- the first from a bound on

same_blob : (m n : List ℕ) → Blob m ≡ Blob n → m ≡ n
same_blob m n e = cc e

pub none_from : (bound : List ℕ) (es : List Row) → from_key plain (Blob bound ∷ []) es ≡ [] → (q : List ℕ) → IsListed es q → is_lt (name_cmp q bound) ≡ true
none_from bound [] h q l = absurd l.1
none_from bound (e ∷ es) h q l = by (is_lt (prefix_cmp plain e (Blob bound ∷ []))) refl h (none_from bound es)
  where
    by : (b : Bool) → is_lt (prefix_cmp plain e (Blob bound ∷ [])) ≡ b → cond b (from_key plain (Blob bound ∷ []) es) (e ∷ es) ≡ []
        → (from_key plain (Blob bound ∷ []) es ≡ [] → (q : List ℕ) → IsListed es q → is_lt (name_cmp q bound) ≡ true) → is_lt (name_cmp q bound) ≡ true
    by true t none more = elim l.1 [
      | inl here ↦ sym (ap is_lt (ap (λ (x : Row). prefix_cmp plain x (Blob bound ∷ [])) (sym here) ∙ entry_key q bound l.0)) ∙ t
      | inr later ↦ more none q (l.0, later)
    ]
    by false t none more = absurd (cc none)

-- the entry that a seek is at is not below the bound, and each other such entry is after it
first_after : (bound : List ℕ) (es left : List Row) (e : Row) (n : List ℕ) (id : ℤ) → IsIndex plain es → from_key plain (Blob bound ∷ []) es ≡ e ∷ left → e ≡ name_entry n id
    → (is_lt (name_cmp n bound) ≡ false) × ((q : List ℕ) → IsListed es q → is_lt (name_cmp q bound) ≡ false → (q ≡ n) ⊎ (name_cmp n q ≡ Less))
first_after bound [] left e n id up h is = absurd (cc h)
first_after bound (x ∷ es) left e n id up h is = by (is_lt (prefix_cmp plain x (Blob bound ∷ []))) refl h (λ k. first_after bound es left e n id up.1 k is)
  where
    by : (b : Bool) → is_lt (prefix_cmp plain x (Blob bound ∷ [])) ≡ b → cond b (from_key plain (Blob bound ∷ []) es) (x ∷ es) ≡ e ∷ left
        → (from_key plain (Blob bound ∷ []) es ≡ e ∷ left → (is_lt (name_cmp n bound) ≡ false) × ((q : List ℕ) → IsListed es q → is_lt (name_cmp q bound) ≡ false → (q ≡ n) ⊎ (name_cmp n q ≡ Less)))
        → (is_lt (name_cmp n bound) ≡ false) × ((q : List ℕ) → IsListed (x ∷ es) q → is_lt (name_cmp q bound) ≡ false → (q ≡ n) ⊎ (name_cmp n q ≡ Less))
    by true t at more = (
      (more at).0,
      λ q l above. elim l.1 [
        | inl here ↦ absurd (true≢false (sym t ∙ ap is_lt (ap (λ (y : Row). prefix_cmp plain y (Blob bound ∷ [])) (sym here) ∙ entry_key q bound l.0) ∙ above))
        | inr later ↦ (more at).1 q (l.0, later) above
      ],
    )
    by false t at more =
        let same : x ≡ name_entry n id = (let first : x ≡ e = cc at in first) ∙ is in (
          sym (ap is_lt (ap (λ (y : Row). prefix_cmp plain y (Blob bound ∷ [])) same ∙ entry_key n bound id)) ∙ t,
          λ q l above. elim l.1 [
            | inl here ↦ inl (let equal : name_entry q l.0 ≡ name_entry n id = here ∙ same in cc equal)
            | inr later ↦
                let below = subst (λ y. entry_cmp plain y (name_entry q l.0) ≡ Less) same (all_among (λ f. entry_cmp plain x f ≡ Less) (name_entry q l.0) es up.0 later) in
                elim (names_rise n q id l.0 below) [ inl less ↦ inr less | inr tied ↦ inl (sym (exact_bytes n q tied)) ]
          ],
        )

pub finds_first : (bound : List ℕ) (es left : List Row) (e : Row) (f : Result CidParts CidError) → IsIndex plain es → from_key plain (Blob bound ∷ []) es ≡ e ∷ left → EntersName e f → FindsFirst es bound (Some f)
finds_first bound es left e (Err fault) up h enters = λ are. enters (all_among IsNameEntry e es are (first_is_among bound es left e h))
finds_first bound es left e (Ok c) up h enters = λ are.
    let here = first_is_among bound es left e h in
    let n = all_among IsNameEntry e es are here in
    let name : n.0 ≡ cid_bytes c = same_blob n.0 (cid_bytes c) (ap (λ (x : Row). column x 0) (sym n.2) ∙ enters.1) in
    let is : e ≡ name_entry (cid_bytes c) n.1 = n.2 ∙ ap (λ m. name_entry m n.1) name in
    let w = first_after bound es left e (cid_bytes c) n.1 up h is in
    record { valid = enters.0; listed = (n.1, subst (λ x. Among x es) is here); above = w.0; first = w.1 }

-- where a seek in the index is
pub sought_name : (old new : View) (key : Row) → old.shape name_tree ≡ shape.Index plain → new ≡ with_cursor old 0 (sought (order_of (old.shape name_tree)) Forward key (old.trees name_tree))
    → left_of new 0 ≡ from_key plain key (old.trees name_tree)
sought_name old new key at is = ap (λ v. left_of v 0) is ∙ placed old 0 _ ∙ ap (λ s. from_key (order_of s) key (old.trees name_tree)) at

pub index_rises : (v : View) → v.shape name_tree ≡ shape.Index plain → IsOrdered v.shape v.trees → IsIndex plain (v.trees name_tree)
index_rises v at ordered = subst (λ s. IsShaped s (v.trees name_tree)) at (ordered name_tree)

-- the entry that the cursor gave first
pub seeks : (es : List Row) (name : List ℕ) (mid new : View) (row : Row) (is_there : Bool) → IsIndex plain es → from_key plain (Blob name ∷ []) es ≡ left_of mid 0 → Advances mid new 0 row is_there → SeeksEntry es name row is_there
seeks es name mid new row true up at h = (up, (left_of new 0, at ∙ stepped mid new 0 row h))
seeks es name mid new row false up at h = (up, at ∙ ended mid new 0 row h)
