-- The roots of a store, and that it stays ready.
use Rattle.std.proofs.Common.{arith, ◌≡◌, inl, inr, ℕ, ℤ, List, [], ◌∷◌, ◌++◌, refl, sym, ap, ap₂, ◌∙◌, subst, true≢false, IsTrue, Bool, false, Result, Ok, Err, IfErr, OnOk, is_err}
use Rattle.std.proofs.Math.Decide.{ℕ_discrete}
use Rattle.sqlite_value.specs.Order.{Row}
use Rattle.sqlite_trees.specs.Tree.{Trees}
use Rattle.sqlite_trees.specs.View.{View, IsClean}
use Rattle.sqlite_trees.specs.Objects.{catalog_tree}
use Rattle.sqlite_trees.specs.declared.store.Store.{Ghosts}
use Rattle.ipld_tree.specs.Cid.{CidParts, AreCidParts, cid_bytes}
use Rattle.ipld_tree.proofs.Cids.{cid_unique}
use Rattle.ipld_links.specs.Sets.{Among, members, AddsCid}
use Rattle.ipld_links.specs.declared.cid_set.CidSet.{CidSet}
use Rattle.ipld_links.proofs.Members.{among_push, push_among}
use Rattle.store_rows.specs.Rows.{name_tree, IsKeyed}
use Rattle.store_rows.specs.RootRows.{root_tree, root_row, IsRowOfRoot, AreRoots, HasRoot, AppendsRoot, LeavesOut, TakesRoot}
use Rattle.store_rows.specs.Ends.{WritesIn, KeepsOthers, IsOfRoots}
use Rattle.store_rows.specs.declared.entries.Added.{Added}
use Rattle.store_rows.specs.declared.entries.Added.TheVariants.{New, Stored, NoNumber}
use Rattle.store_rows.proofs.Rooting.{are_more}
use Rattle.store_on_disk.specs.Stored.{AreAllRoots, IsReady, IsSame, IsToldAdded, FailsByStore}
use Rattle.store_on_disk.specs.Roots.{JoinsRoots, LacksNumber, HasJust, KnowsRoots, IsRootAdded, IsRootTooLongFor, RootRefused, IsRootTaken}
use Rattle.store_on_disk.specs.declared.error.StoreRefusal.{StoreRefusal}
use Rattle.store_on_disk.specs.declared.error.StoreRefusal.TheVariants as refusal
use Rattle.store_on_disk.proofs.Calls.{ready_written, still_open, not_number}

-- ---- names and rows

same_name : (m n : List ℕ) (i j : ℤ) → root_row i m ≡ root_row j n → m ≡ n
same_name m n i j e = cc e

pub has_among : (rows : List Row) (names : List CidParts) (c : CidParts) → AreRoots rows names → AreCidParts c → HasRoot rows (cid_bytes c) → Among c names
has_among [] names c are valid h = absurd h.1
has_among (r ∷ rows) [] c are valid h = absurd are
has_among (r ∷ rows) (n ∷ names) c are valid (id, inl here) = inl (cid_unique c n valid are.0.0 (same_name (cid_bytes c) (cid_bytes n) id are.0.1.0 (here ∙ are.0.1.1)))
has_among (r ∷ rows) (n ∷ names) c are valid (id, inr later) = inr (has_among rows names c are.1 valid (id, later))

pub among_has : (rows : List Row) (names : List CidParts) (c : CidParts) → AreRoots rows names → Among c names → HasRoot rows (cid_bytes c)
among_has [] [] c are m = absurd m
among_has [] (n ∷ names) c are m = absurd are
among_has (r ∷ rows) [] c are m = absurd are
among_has (r ∷ rows) (n ∷ names) c are (inl e) = (are.0.1.0, inl (ap (λ (x : CidParts). root_row are.0.1.0 (cid_bytes x)) e ∙ sym are.0.1.1))
among_has (r ∷ rows) (n ∷ names) c are (inr m) = let k = among_has rows names c are.1 m in (k.0, inr k.1)

-- rows have one list of names
roots_same : (rows : List Row) (names others : List CidParts) → AreRoots rows names → AreRoots rows others → names ≡ others
roots_same [] [] [] p q = refl
roots_same [] [] (d ∷ others) p q = absurd q
roots_same [] (c ∷ names) others p q = absurd p
roots_same (r ∷ rows) [] others p q = absurd p
roots_same (r ∷ rows) (c ∷ names) [] p q = absurd q
roots_same (r ∷ rows) (c ∷ names) (d ∷ others) p q =
    let same : c ≡ d = cid_unique c d p.0.0 q.0.0 (same_name (cid_bytes c) (cid_bytes d) p.0.1.0 q.0.1.0 (sym p.0.1.1 ∙ q.0.1.1)) in
    ap₂ (λ x xs. x ∷ xs) same (roots_same rows names others p.1 q.1)

-- the rows that are left are those of the names that are left
pub leaves_names : (rows new : List Row) (names : List CidParts) (c : CidParts) → AreRoots rows names → AreCidParts c → LeavesOut (IsRowOfRoot (cid_bytes c)) rows new
    → (now : List CidParts) × AreRoots new now × LeavesOut (λ n. n ≡ c) names now
leaves_names [] new [] c are valid l = ([], subst (λ rs. AreRoots rs []) (sym l) tt, refl)
leaves_names [] new (n ∷ names) c are valid l = absurd are
leaves_names (r ∷ rows) new [] c are valid l = absurd are
leaves_names (r ∷ rows) new (n ∷ names) c are valid (inl k) =
    let more = leaves_names rows new names c are.1 valid k.1 in
    let same : n ≡ c = cid_unique n c are.0.0 valid (same_name (cid_bytes n) (cid_bytes c) are.0.1.0 k.0.0 (sym are.0.1.1 ∙ k.0.1)) in
    (more.0, more.1, inl (same, more.2))
leaves_names (r ∷ rows) new (n ∷ names) c are valid (inr k) =
    let more = leaves_names rows k.1.0 names c are.1 valid k.1.2 in (
      n ∷ more.0,
      subst (λ rs. AreRoots rs (n ∷ more.0)) (sym k.1.1) (are.0, more.1),
      inr (λ e. k.0 (are.0.1.0, are.0.1.1 ∙ ap (λ (x : CidParts). root_row are.0.1.0 (cid_bytes x)) e), (more.0, refl, more.2)),
    )

-- ---- trees

-- trees whose roots are the same, and each other tree
pub same_trees : (old new : Trees) → KeepsOthers IsOfRoots old new → new root_tree ≡ old root_tree → new ≡ old
same_trees old new others roots = λ i t. at t (ℕ_discrete t root_tree) i
  where
    at : (t : ℕ) → Dec (t ≡ root_tree) → new t ≡ old t
    at t (yes e) = subst (λ n. new n ≡ old n) (sym e) roots
    at t (no apart) = others t apart

not_roots : IsOfRoots name_tree → ⊥
not_roots e = cc e

not_listed : IsOfRoots catalog_tree → ⊥
not_listed e = omega (arith, e)

-- rows of roots were written
pub ready_roots : (old new : View) → WritesIn IsOfRoots old new → (IsTrue old.is_open → AreAllRoots (new.trees root_tree)) → IsReady old → IsReady new
ready_roots old new h roots r = ready_written old new h.frame (h.others catalog_tree not_listed) (λ o. (subst IsKeyed (sym (h.others name_tree not_roots)) (r.keyed o), roots o)) r

-- ---- adding

pub done_if_clean : {X E : Type 0} (r : Result X E) (C P : Type 0) → (C → OnOk r P) → OnOk r (C → P)
done_if_clean (Ok x) C P h = h
done_if_clean (Err e) C P h = tt

-- what a call ensures if it did not refuse
pub on_ok : {X Y : Type 0} (r : Result X Y) (P : Type 0) → false ≡ is_err r → OnOk r P → P
on_ok (Ok x) P e h = h
on_ok (Err y) P e h = absurd (cc e)

appended : (rows new : List Row) (names : List CidParts) (c : CidParts) → AreCidParts c → AppendsRoot rows new (cid_bytes c) New → AreRoots rows names → AreRoots new (names ++ c ∷ [])
appended rows new names c valid a are = subst (λ rs. AreRoots rs (names ++ c ∷ [])) (sym a.1) (are_more rows names (root_row a.0 (cid_bytes c)) c are (valid, (a.0, refl)))

adds_names : (rows new : List Row) (names : List CidParts) (c : CidParts) (added : Added) → AreCidParts c → (HasRoot rows (cid_bytes c) → ⊥) → AppendsRoot rows new (cid_bytes c) added → AreRoots rows names
    → (added ≡ NoNumber → ⊥) → (now : List CidParts) × AreRoots new now × JoinsRoots names c now
adds_names rows new names c New valid none a are some = (names ++ c ∷ [], appended rows new names c valid a are, inr (λ m. none (among_has rows names c are m), refl))
adds_names rows new names c Stored valid none a are some = absurd a
adds_names rows new names c NoNumber valid none a are some = absurd (some refl)

-- each row is still a root's
pub roots_added : (rows new : List Row) (c : CidParts) (added : Added) → AreCidParts c → AppendsRoot rows new (cid_bytes c) added → AreAllRoots rows → AreAllRoots new
roots_added rows new c New valid a (names, are) = (names ++ c ∷ [], appended rows new names c valid a are)
roots_added rows new c Stored valid a (names, are) = absurd a
roots_added rows new c NoNumber valid a (names, are) = (names, subst (λ rs. AreRoots rs names) (sym a.1) are)

-- what the set of the roots says of a name
pub none_known : (v : View) (known : CidSet) (name : CidParts) → AreCidParts name → KnowsRoots v known → (Among name (members known) → ⊥) → HasRoot (v.trees root_tree) (cid_bytes name) → ⊥
none_known v known name valid h none has = none ((h.2 name).1 (has_among (v.trees root_tree) h.0 name h.1 valid has))

pub known_added : (v : View) (known : CidSet) (name : CidParts) → KnowsRoots v known → Among name (members known) → IsRootAdded v v name
known_added v known name h m = record {
  roots = λ names are. (names, are, inl (subst (Among name) (roots_same (v.trees root_tree) h.0 names h.1 are) ((h.2 name).0 m), refl));
  same = λ names are among. refl;
  beside = λ t out. refl;
  committed = refl;
  reals = refl;
  is_open = refl;
  broken = refl;
}

-- one more name
pub just_push : (names : List CidParts) (name : CidParts) (before after : CidSet) → HasJust names before → AddsCid name before after → HasJust (names ++ name ∷ []) after
just_push names name before after h add c = (
  λ m. push_among c names name (elim ((add.1 c).0 m) [ inl was ↦ inl ((h c).0 was) | inr e ↦ inr e ]),
  λ m. (add.1 c).1 (elim (among_push c names name m) [ inl was ↦ inl ((h c).1 was) | inr e ↦ inr e ]),
)

known_more : (old new : View) (before after : CidSet) (name : CidParts) → KnowsRoots old before → AddsCid name before after → AppendsRoot (old.trees root_tree) (new.trees root_tree) (cid_bytes name) New → KnowsRoots new after
known_more old new before after name h add a = (
  h.0 ++ name ∷ [],
  appended (old.trees root_tree) (new.trees root_tree) h.0 name add.0 a h.1,
  just_push h.0 name before after h.2 add,
)

added_view : (old new : View) (name : CidParts) (added : Added) → WritesIn IsOfRoots old new → AreCidParts name → (HasRoot (old.trees root_tree) (cid_bytes name) → ⊥) → AppendsRoot (old.trees root_tree) (new.trees root_tree) (cid_bytes name) added
    → (added ≡ NoNumber → ⊥) → IsRootAdded old new name
added_view old new name added h valid none a some = record {
  roots = λ names are. adds_names (old.trees root_tree) (new.trees root_tree) names name added valid none a are some;
  same = λ names are m. absurd (none (among_has (old.trees root_tree) names name are m));
  beside = h.others;
  committed = ap (λ (v : View). v.committed) h.frame;
  reals = ap (λ (v : View). v.reals) h.frame;
  is_open = ap (λ (v : View). v.is_open) h.frame;
  broken = ap (λ (v : View). v.is_broken) h.frame;
}

pub is_root_added : (old new : View) (name : CidParts) (added : Added) (r : Result (Unit {0}) StoreRefusal) → WritesIn IsOfRoots old new → AreCidParts name → (HasRoot (old.trees root_tree) (cid_bytes name) → ⊥)
    → AppendsRoot (old.trees root_tree) (new.trees root_tree) (cid_bytes name) added → IsToldAdded added r → OnOk r (IsRootAdded old new name)
is_root_added old new name New r h valid none a is = subst (λ x. OnOk x (IsRootAdded old new name)) (sym is) (added_view old new name New h valid none a (λ e. cc e))
is_root_added old new name Stored r h valid none a is = absurd a
is_root_added old new name NoNumber r h valid none a is = subst (λ x. OnOk x (IsRootAdded old new name)) (sym is) tt

pub is_known : (old new : View) (before after : CidSet) (name : CidParts) (added : Added) (r : Result (Unit {0}) StoreRefusal) → KnowsRoots old before → AddsCid name before after → AppendsRoot (old.trees root_tree) (new.trees root_tree) (cid_bytes name) added → IsToldAdded added r → OnOk r (KnowsRoots new after)
is_known old new before after name New r h add a is = subst (λ x. OnOk x (KnowsRoots new after)) (sym is) (known_more old new before after name h add a)
is_known old new before after name Stored r h add a is = absurd a
is_known old new before after name NoNumber r h add a is = subst (λ x. OnOk x (KnowsRoots new after)) (sym is) tt

module _ {S : Type 0} (g : Ghosts S) (name : CidParts) (old new : S) where
  none_added : AppendsRoot ((g.view old).trees root_tree) ((g.view new).trees root_tree) (cid_bytes name) NoNumber → (HasRoot ((g.view old).trees root_tree) (cid_bytes name) → ⊥) → WritesIn IsOfRoots (g.view old) (g.view new) → LacksNumber (g.view old).trees name × IsSame (g.view old) (g.view new)
  none_added a none h = (
    (a.0, λ names are m. none (among_has ((g.view old).trees root_tree) names name are m)),
    record { trees = same_trees (g.view old).trees (g.view new).trees h.others a.1; committed = ap (λ (v : View). v.committed) h.frame; is_open = ap (λ (v : View). v.is_open) h.frame; broken = ap (λ (v : View). v.is_broken) h.frame },
  )

  pub root_not_added : (added : Added) (r : Result (Unit {0}) StoreRefusal)
      → (IsClean (g.view new) → AppendsRoot ((g.view old).trees root_tree) ((g.view new).trees root_tree) (cid_bytes name) added × (HasRoot ((g.view old).trees root_tree) (cid_bytes name) → ⊥) × WritesIn IsOfRoots (g.view old) (g.view new)) → IsToldAdded added r → IfErr r (RootRefused g name old new)
  root_not_added New r h is = subst (λ x. IfErr x (RootRefused g name old new)) (sym is) tt
  root_not_added Stored r h is = subst (λ x. IfErr x (RootRefused g name old new)) (sym is) tt
  root_not_added NoNumber r h is = subst (λ x. IfErr x (RootRefused g name old new)) (sym is) (λ clean. none_added (h clean).0 (h clean).1 (h clean).2)

  pub root_failed : (told : StoreRefusal) → FailsByStore g (IsRootTooLongFor (g.view old) name) old new told → RootRefused g name old new told
  root_failed refusal.NoNumber f = absurd (not_number f.error f.tells)
  root_failed _ f = f

-- ---- taking out

pub roots_taken : (rows new : List Row) (c : CidParts) (taken : Bool) → AreCidParts c → TakesRoot rows new (cid_bytes c) taken → AreAllRoots rows → AreAllRoots new
roots_taken rows new c taken valid t (names, are) = let k = leaves_names rows new names c are valid t.1 in (k.0, k.1)

-- if no row was of the name, no row is left out
leaves_none : (rows new : List Row) (name : List ℕ) → (HasRoot rows name → ⊥) → LeavesOut (IsRowOfRoot name) rows new → new ≡ rows
leaves_none [] new name none l = l
leaves_none (r ∷ rows) new name none (inl k) = absurd (none (k.0.0, inl (sym k.0.1)))
leaves_none (r ∷ rows) new name none (inr k) = k.1.1 ∙ ap (λ l. r ∷ l) (leaves_none rows k.1.0 name (λ h. none (h.0, inr h.1)) k.1.2)

pub is_root_taken : (old new : View) (name : CidParts) (taken : Bool) → WritesIn IsOfRoots old new → IsTrue old.is_open → AreCidParts name → TakesRoot (old.trees root_tree) (new.trees root_tree) (cid_bytes name) taken → IsRootTaken old new name taken
is_root_taken old new name taken h o valid t = record {
  roots = λ names are. (
    (λ yes. has_among (old.trees root_tree) names name are valid (t.0.0 yes), λ m. t.0.1 (among_has (old.trees root_tree) names name are m)),
    leaves_names (old.trees root_tree) (new.trees root_tree) names name are valid t.1,
  );
  same = λ e. same_trees old.trees new.trees h.others (leaves_none (old.trees root_tree) (new.trees root_tree) (cid_bytes name) (λ has. true≢false (sym (t.0.1 has) ∙ e)) t.1);
  beside = h.others;
  committed = ap (λ (v : View). v.committed) h.frame;
  was_open = o;
  is_open = still_open old new h.frame o;
  broken = ap (λ (v : View). v.is_broken) h.frame;
}
