-- The names that are removed, one by one, in their order.
use Rattle.std.proofs.Common.{◌≡◌, inl, inr, ℕ, ◌+◌, ◌≤◌, ℤ, List, [], ◌∷◌, ◌++◌, length-append, Bool, true, false, Less, Equal, refl, sym, ap, ◌∙◌, subst, arith, IsTrue, ◌⊎◌, ◌↔◌, Option, None, Some}
use Rattle.std.proofs.Math.Decide.{ℕ_discrete}
use Rattle.std.proofs.Math.Nat.{add-zero}
use Rattle.std.proofs.lemmas.Cmp.{nat_list_cmp_total, tied_itself}
use Rattle.std.specs.Bool.{⊤}
use Rattle.std.specs.BTreeSet.{BTreeSet}
use mathlib.Core.List.{List-discrete}
use mir.Val.{bool_byte}
use Rattle.sqlite_trees.specs.Tree.{Trees}
use Rattle.sqlite_trees.specs.View.{View, IsClean}
use Rattle.sqlite_trees.specs.declared.store.Store.{Ghosts}
use Rattle.ipld_tree.specs.Cid.{CidParts, cid_bytes}
use Rattle.ipld_tree.proofs.Cids.{cid_unique}
use Rattle.ipld_links.specs.Sets.{Among}
use Rattle.ipld_links.specs.Reaching.{Stored, NoneTwice}
use Rattle.ipld_links.proofs.Members.{among_push, push_among}
use Rattle.store_rows.specs.Ends.{Quiet, KeepsOthers, IsOfBlocks}
use Rattle.store_rows.specs.Rows.{block_tree, name_tree, block_row, name_entry, name_cmp, IsStored, IsListed}
use Rattle.store_on_disk.specs.Stored.{IsAfter, IsNext, GivesNextName, ListsName, IsSame, IsTaken, IsCommitted, FailsByStore}
use Rattle.store_on_disk.specs.Trees.{ShowsStored}
use Rattle.store_on_disk.proofs.Marking.{known_there}
use Rattle.store_on_disk.specs.Collecting.{IsLedForm, HoldsThose, KeepsReachable, TakesOut, IsCollected, MarksRoots, IsKeptForm, SweepsNext, IsSwept}
use Rattle.store_on_disk.specs.declared.error.StoreRefusal.{StoreRefusal}
use Rattle.store_on_disk.proofs.Adding.{KeepsLast, fails_after}

-- ---- what is kept

pub lists_those : (IsSo : List ℕ → Type 0) (old new : Trees) → HoldsThose IsSo old new → (q : List ℕ) → IsListed (new name_tree) q ↔ (IsListed (old name_tree) q × IsSo q)
lists_those IsSo old new h q = (
  λ l. let k = (h.entries l.0 q).0 l.1 in ((l.0, k.0), k.1),
  λ k. (k.0.0, (h.entries k.0.0 q).1 (k.0.1, k.1)),
)

-- for each listed name the two conditions are the same
pub those_as : (P Q : List ℕ → Type 0) (old new : Trees) → ((q : List ℕ) → IsListed (old name_tree) q → P q ↔ Q q) → HoldsThose P old new → HoldsThose Q old new
those_as P Q old new alike h = record {
  holds = λ q b. (
    λ s. let k = (h.holds q b).0 s in (k.0, (alike q (k.0.id, k.0.listed)).0 k.1),
    λ k. (h.holds q b).1 (k.0, (alike q (k.0.id, k.0.listed)).1 k.1),
  );
  entries = λ id q. (
    λ m. let k = (h.entries id q).0 m in (k.0, (alike q (id, k.0)).0 k.1),
    λ k. (h.entries id q).1 (k.0, (alike q (id, k.0)).1 k.1),
  );
  rows = λ id q b. (
    λ m. let k = (h.rows id q b).0 m in (k.0, λ u. k.1 (λ p. u.0 ((alike q (id, u.1)).0 p), u.1)),
    λ k. (h.rows id q b).1 (k.0, λ u. k.1 (λ p. u.0 ((alike q (id, u.1)).1 p), u.1)),
  );
}

pub those_all : (trees : Trees) → HoldsThose (λ q. ⊤) trees trees
those_all trees = record {
  holds = λ q b. (λ s. (s, tt), λ k. k.0);
  entries = λ id q. (λ m. (m, tt), λ k. k.0);
  rows = λ id q b. (λ m. (m, λ u. u.0 tt), λ k. k.0);
}

-- one more name is removed
pub those_less : (P : List ℕ → Type 0) (old mid new : View) (c : CidParts) (taken : Bool) → HoldsThose P old.trees mid.trees → IsTaken mid new c taken → HoldsThose (λ q. P q × (q ≡ cid_bytes c → ⊥)) old.trees new.trees
those_less P old mid new c taken h t = record {
  holds = λ q b. (
    λ s. let k = (t.holds q b).0 s in let w = (h.holds q b).0 k.0 in (w.0, (w.1, k.1)),
    λ k. (t.holds q b).1 ((h.holds q b).1 (k.0, k.1.0), k.1.1),
  );
  entries = λ id q. (
    λ m. let k = (t.entries id q).0 m in let w = (h.entries id q).0 k.0 in (w.0, (w.1, k.1)),
    λ k. (t.entries id q).1 ((h.entries id q).1 (k.0, k.1.0), k.1.1),
  );
  rows = λ id q b. (
    λ m.
        let k = (t.rows id q b).0 m in
        let w = (h.rows id q b).0 k.0 in
        (w.0, λ u. w.1 (λ p. by id q p u.1 u.0 k.1 (List-discrete ℕ_discrete q (cid_bytes c)), u.1)),
    λ k. (t.rows id q b).1 ((h.rows id q b).1 (k.0, λ u. k.1 (λ w. u.0 w.0, u.1)), λ u. k.1 (λ w. w.1 u.0, ((h.entries id q).0 u.1).0)),
  );
}
  where
    by : (id : ℤ) (q : List ℕ) → P q → Among (name_entry q id) (old.trees name_tree) → (P q × (q ≡ cid_bytes c → ⊥) → ⊥) → ((q ≡ cid_bytes c) × Among (name_entry q id) (mid.trees name_tree) → ⊥) → Dec (q ≡ cid_bytes c) → ⊥
    by id q p entry out led (yes e) = led (e, (h.entries id q).1 (entry, p))
    by id q p entry out led (no apart) = out (p, apart)

-- ---- how far a sweep has come

-- the name is in the set, or comes after the last one
abbrev Stays : BTreeSet CidParts → Option CidParts → List ℕ → Type 0
Stays kept last q = IsKeptForm kept q ⊎ IsAfter last q

pub record SweptTo (old now : View) (kept : BTreeSet CidParts) (last : Option CidParts) (count : ℕ) : Type 0 where
  pub trees : HoldsThose (Stays kept last) old.trees now.trees
  pub taken : TakesOut old.trees now.trees count
  pub beside : KeepsOthers IsOfBlocks old.trees now.trees
  pub committed : now.committed ≡ old.committed
  pub is_open : now.is_open ≡ old.is_open
  pub broken : now.is_broken ≡ old.is_broken

pub none_out : (trees : Trees) → TakesOut trees trees 0
none_out trees = ([], tt, refl, λ q. (λ m. absurd m, λ h. absurd (h.1 h.0)))

pub swept_none : (v : View) (kept : BTreeSet CidParts) → SweptTo v v kept None 0
swept_none v kept = record {
  trees = those_as (λ q. ⊤) (Stays kept None) v.trees v.trees (λ q l. (λ t. inr tt, λ s. tt)) (those_all v.trees);
  taken = none_out v.trees;
  beside = λ t out. refl;
  committed = refl;
  is_open = refl;
  broken = refl;
}

not_itself : (q : List ℕ) → name_cmp q q ≡ Less → ⊥
not_itself q less = let clash : Less ≡ Equal = sym less ∙ tied_itself nat_list_cmp_total q in absurd (cc clash)

after_then : (last : Option CidParts) (c : CidParts) (q : List ℕ) → IsAfter last (cid_bytes c) → name_cmp (cid_bytes c) q ≡ Less → IsAfter last q
after_then None c q following less = tt
after_then (Some l) c q following less = nat_list_cmp_total.trans (cid_bytes l) (cid_bytes c) q following less

once_more : (names : List (List ℕ)) (name : List ℕ) → NoneTwice names → (Among name names → ⊥) → NoneTwice (names ++ name ∷ [])
once_more [] name once none = (λ m. m, tt)
once_more (x ∷ names) name once none = (
  λ m. elim (among_push x names name m) [ inl n ↦ once.0 n | inr e ↦ none (inl (sym e)) ],
  once_more names name once.1 (λ m. none (inr m)),
)

-- a name that was listed is removed
pub one_out : (P : List ℕ → Type 0) (old mid new : View) (c : CidParts) (count : ℕ) → HoldsThose P old.trees mid.trees → TakesOut old.trees mid.trees count → ListsName mid c → IsTaken mid new c true → TakesOut old.trees new.trees (count + 1)
one_out P old mid new c count those taken listed t = (
  taken.0 ++ cid_bytes c ∷ [],
  once_more taken.0 (cid_bytes c) taken.1 (λ m. ((taken.3 (cid_bytes c)).0 m).1 listed),
  ap (λ n. n + 1) taken.2 ∙ sym (length-append taken.0 (cid_bytes c ∷ [])),
  λ q. (there q, λ k. push_among q taken.0 (cid_bytes c) (out q k.0 k.1 (List-discrete ℕ_discrete q (cid_bytes c)))),
)
  where
    there : (q : List ℕ) → Among q (taken.0 ++ cid_bytes c ∷ []) → IsListed (old.trees name_tree) q × (IsListed (new.trees name_tree) q → ⊥)
    there q m = elim (among_push q taken.0 (cid_bytes c) m) [
      | inl o ↦ let k = (taken.3 q).0 o in (k.0, λ l. k.1 ((t.lists q).0 l).0)
      | inr e ↦ (((lists_those P old.trees mid.trees those q).0 (subst (IsListed (mid.trees name_tree)) (sym e) listed)).0, λ l. ((t.lists q).0 l).1 e)
    ]

    out : (q : List ℕ) → IsListed (old.trees name_tree) q → (IsListed (new.trees name_tree) q → ⊥) → Dec (q ≡ cid_bytes c) → Among q taken.0 ⊎ (q ≡ cid_bytes c)
    out q l gone (yes e) = inr e
    out q l gone (no apart) = inl ((taken.3 q).1 (l, λ k. gone ((t.lists q).1 (k, apart))))

module _ (old mid : View) (kept : BTreeSet CidParts) (last : Option CidParts) (count : ℕ) (c : CidParts) (h : SweptTo old mid kept last count) (next : IsNext (mid.trees name_tree) last c) where
  -- the names after the last one are this one, and those after this one
  later : (q : List ℕ) → IsListed (old.trees name_tree) q → IsAfter last q → (q ≡ cid_bytes c) ⊎ (name_cmp (cid_bytes c) q ≡ Less)
  later q l following = next.first q ((lists_those (Stays kept last) old.trees mid.trees h.trees q).1 (l, inr following)) following

  same_stay : Among c kept.keys → (q : List ℕ) → IsListed (old.trees name_tree) q → Stays kept last q ↔ Stays kept (Some c) q
  same_stay m q l = (
    λ s. elim s [
      | inl k ↦ inl k
      | inr following ↦ elim (later q l following) [ inl e ↦ inl (c, next.valid, m, sym e) | inr less ↦ inr less ]
    ],
    λ s. elim s [ inl k ↦ inl k | inr less ↦ inr (after_then last c q next.following less) ],
  )

  pub swept_same : (new : View) → Among c kept.keys → IsSame mid new → SweptTo old new kept (Some c) count
  swept_same new m same = record {
    trees = those_as (Stays kept last) (Stays kept (Some c)) old.trees new.trees (same_stay m) (subst (HoldsThose (Stays kept last) old.trees) (sym same.trees) h.trees);
    taken = subst (λ t. TakesOut old.trees t count) (sym same.trees) h.taken;
    beside = λ t out. ap (λ (u : Trees). u t) same.trees ∙ h.beside t out;
    committed = same.committed ∙ h.committed;
    is_open = same.is_open ∙ h.is_open;
    broken = same.broken ∙ h.broken;
  }

  less_stay : (Among c kept.keys → ⊥) → (q : List ℕ) → IsListed (old.trees name_tree) q → (Stays kept last q × (q ≡ cid_bytes c → ⊥)) ↔ Stays kept (Some c) q
  less_stay out q l = (
    λ s. elim s.0 [
      | inl k ↦ inl k
      | inr following ↦ elim (later q l following) [ inl e ↦ absurd (s.1 e) | inr less ↦ inr less ]
    ],
    λ s. elim s [
      | inl k ↦ (inl k, λ e. out (subst (λ n. Among n kept.keys) (cid_unique k.0 c k.1 next.valid (k.3 ∙ e)) k.2))
      | inr less ↦ (inr (after_then last c q next.following less), λ e. not_itself (cid_bytes c) (subst (λ x. name_cmp (cid_bytes c) x ≡ Less) e less))
    ],
  )

  pub swept_less : (new : View) → (Among c kept.keys → ⊥) → IsTaken mid new c true → SweptTo old new kept (Some c) (count + 1)
  swept_less new out t = record {
    trees = those_as (λ q. Stays kept last q × (q ≡ cid_bytes c → ⊥)) (Stays kept (Some c)) old.trees new.trees (less_stay out) (those_less (Stays kept last) old mid new c true h.trees t);
    taken = one_out (Stays kept last) old mid new c count h.trees h.taken next.listed t;
    beside = λ u out. t.beside u out ∙ h.beside u out;
    committed = t.committed ∙ h.committed;
    is_open = opened ∙ h.is_open;
    broken = t.broken ∙ h.broken;
  }
    where
      opened : new.is_open ≡ mid.is_open
      opened = t.is_open ∙ sym t.was_open

pub one_at_most : (b : Bool) → bool_byte b ≤ 1
one_at_most true = omega arith
one_at_most false = omega arith

pub swept_next : (old mid new : View) (kept : BTreeSet CidParts) (last : Option CidParts) (count : ℕ) (p : CidParts × Bool) → SweptTo old mid kept last count → SweepsNext mid new last kept (Some p) → SweptTo old new kept (Some p.0) (count + bool_byte p.1)
swept_next old mid new kept last count (c, true) h k = swept_less old mid kept last count c h k.0 new k.1.0 k.1.1
swept_next old mid new kept last count (c, false) h k = subst (SweptTo old new kept (Some c)) (sym (add-zero count)) (swept_same old mid kept last count c h k.0 new k.1.0 k.1.1)

-- a name that is listed is removed
pub taken_same : (old mid new : View) (c : CidParts) (taken : Bool) → IsSame old mid → ListsName old c → IsTaken mid new c taken → IsTaken old new c true
taken_same old mid new c taken same listed t = record {
  was = (λ x. listed, λ l. refl);
  holds = subst (λ (u : Trees). (q d : List ℕ) → IsStored new.trees q d ↔ (IsStored u q d × (q ≡ cid_bytes c → ⊥))) same.trees t.holds;
  lists = subst (λ (u : Trees). (q : List ℕ) → IsListed (new.trees name_tree) q ↔ (IsListed (u name_tree) q × (q ≡ cid_bytes c → ⊥))) same.trees t.lists;
  entries = subst (λ (u : Trees). (id : ℤ) (q : List ℕ) → Among (name_entry q id) (new.trees name_tree) ↔ (Among (name_entry q id) (u name_tree) × (q ≡ cid_bytes c → ⊥))) same.trees t.entries;
  rows = subst (λ (u : Trees). (id : ℤ) (q d : List ℕ) → Among (block_row id q d) (new.trees block_tree) ↔ (Among (block_row id q d) (u block_tree) × ((q ≡ cid_bytes c) × Among (name_entry q id) (u name_tree) → ⊥))) same.trees t.rows;
  beside = subst (λ (u : Trees). KeepsOthers IsOfBlocks u new.trees) same.trees t.beside;
  committed = t.committed ∙ same.committed;
  was_open = subst IsTrue same.is_open t.was_open;
  is_open = t.is_open;
  broken = t.broken ∙ same.broken;
}

pub swept_all : (old mid new : View) (kept : BTreeSet CidParts) (last : Option CidParts) (count : ℕ) → SweptTo old mid kept last count → GivesNextName mid last None → IsSame mid new → IsSwept old new kept count
swept_all old mid new kept last count h none same = record {
  trees = subst (HoldsThose (IsKeptForm kept) old.trees) (sym same.trees) (those_as (Stays kept last) (IsKeptForm kept) old.trees mid.trees alike h.trees);
  taken = subst (λ t. TakesOut old.trees t count) (sym same.trees) h.taken;
  beside = subst (KeepsOthers IsOfBlocks old.trees) (sym same.trees) h.beside;
  committed = same.committed ∙ h.committed;
  is_open = same.is_open ∙ h.is_open;
  broken = same.broken ∙ h.broken;
}
  where
    alike : (q : List ℕ) → IsListed (old.trees name_tree) q → Stays kept last q ↔ IsKeptForm kept q
    alike q l = (
      λ s. elim s [ inl k ↦ k | inr following ↦ absurd (none q ((lists_those (Stays kept last) old.trees mid.trees h.trees q).1 (l, inr following)) following) ],
      λ k. inl k,
    )

pub last_swept : (old now : View) → now.committed ≡ old.committed → now.is_open ≡ old.is_open → KeepsLast old now
last_swept old now committed is_open = record { was_open = λ o. sym is_open ∙ o; committed = λ o. committed }

-- ---- the call

module _ (old mid swept : View) (roots : List CidParts) (kept : BTreeSet CidParts) (count : ℕ) (same : IsSame old mid) (marks : MarksRoots old roots kept) (h : IsSwept mid swept kept count) where
  module _ (stored : Stored) (shows : ShowsStored old stored) where
    led : (q : List ℕ) → IsKeptForm kept q → IsLedForm stored roots q
    led q k = (k.0, k.1, ((marks.1 stored shows k.0).0.0 k.2).1, k.3)

    kept_there : (q : List ℕ) → IsListed (old.trees name_tree) q → IsLedForm stored roots q → IsKeptForm kept q
    kept_there q l k = (k.0, k.1, (marks.1 stored shows k.0).0.1 (known_there old stored k.0 shows ((marks.1 stored shows k.0).1 k.2) (subst (IsListed (old.trees name_tree)) (sym k.3) l), k.2), k.3)

    those_led : HoldsThose (IsLedForm stored roots) old.trees swept.trees
    those_led = those_as (IsKeptForm kept) (IsLedForm stored roots) old.trees swept.trees (λ q l. (led q, kept_there q l)) (subst (λ t. HoldsThose (IsKeptForm kept) t swept.trees) same.trees h.trees)

  pub keeps_reachable : KeepsReachable old roots swept.trees
  keeps_reachable = (marks.0, λ stored shows. (those_led stored shows, λ name l. (marks.1 stored shows name).1 l))

  pub beside_swept : KeepsOthers IsOfBlocks old.trees swept.trees
  beside_swept = subst (λ (u : Trees). KeepsOthers IsOfBlocks u swept.trees) same.trees h.beside

  pub collected : (new : View) → IsCommitted swept new → IsCollected old new roots count
  collected new c = record {
    trees = subst (KeepsReachable old roots) (sym c.trees) keeps_reachable;
    beside = subst (KeepsOthers IsOfBlocks old.trees) (sym c.trees) beside_swept;
    taken = subst (λ t. TakesOut old.trees t count) (sym c.trees) (subst (λ t. TakesOut t swept.trees count) same.trees h.taken);
    committed = c.committed ∙ sym c.trees;
    is_open = c.is_open;
  }

-- ---- refusals

module _ {S : Type 0} (g : Ghosts S) where
  -- a failure after names were removed
  pub fails_swept : (old mid new : S) (told : StoreRefusal) → Quiet g old mid → (IsClean (g.view new) → IsClean (g.view mid))
      → (IsClean (g.view mid) → ((g.view mid).committed ≡ (g.view old).committed) × ((g.view mid).is_open ≡ (g.view old).is_open) × ((g.view mid).is_broken ≡ (g.view old).is_broken)) → FailsByStore g ⊥ mid new told → FailsByStore g ⊥ old new told
  fails_swept old mid new told before was same f =
      fails_after g ⊥ ⊥ old mid new told before was (λ clean. let k = same clean in (k.2, last_swept (g.view old) (g.view mid) k.0 k.1, λ u. u)) f
