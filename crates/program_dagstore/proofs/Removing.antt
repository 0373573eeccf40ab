-- The names that are removed, one after the other, and what is written of them.
use Rattle.std.proofs.Common.{◌≡◌, inl, inr, ℕ, zero, suc, ◌+◌, ◌≤◌, ◌<◌, List, [], ◌∷◌, ◌++◌, length, take, get_or, take-suc, add-one, append-nil, length-append, flat_map, Bool, true, false, refl, sym, ap, ap₂, ◌∙◌, subst, arith, IsTrue, ◌⊎◌, ◌↔◌, Option, Result, Ok, Err}
use Rattle.std.proofs.Math.Seq.{take-length}
use Rattle.std.specs.Bool.{⊤}
use Rattle.sqlite_trees.specs.Tree.{Trees}
use Rattle.sqlite_trees.specs.View.{View}
use Rattle.sqlite_trees.specs.declared.store.Store.{Ghosts}
use Rattle.ipld_tree.specs.Cid.{CidParts, AreCidParts, cid_bytes}
use Rattle.ipld_tree.proofs.Cids.{cid_unique}
use Rattle.text_cid.specs.Texts.{cid_text}
use Rattle.dagcbor_items.specs.Walks.{forms}
use Rattle.ipld_links.specs.Sets.{Among}
use Rattle.ipld_links.specs.Reaching.{NoneTwice}
use Rattle.ipld_links.proofs.Members.{among_push, map_among, among_forms}
use Rattle.program_parts.specs.Lines.{line}
use Rattle.ipld_paths.specs.Resolving.{AreOnceEach}
use Rattle.store_on_disk.specs.Rows.{name_tree, IsListed}
use Rattle.store_on_disk.specs.RootRows.{LeavesOut}
use Rattle.store_on_disk.specs.Stored.{ListsName, IsTaken, IsCommitted}
use Rattle.store_on_disk.proofs.Sweeping.{those_as, those_all, those_less}
use Rattle.store_on_disk.proofs.Unlisted.{item_among}
use Rattle.program_dagstore.specs.Changes.{cid_line, Changes, Commits, Notes, Splits, line_after, SaysTaken, SaysTakenOut, ListsOthers}
use Rattle.program_dagstore.specs.declared.taken.Taken.{Taken}
use Rattle.program_dagstore.specs.declared.fault.Fault.{Fault}
use Rattle.program_dagstore.specs.declared.fault.Fault.TheVariants as fault

-- ---- lists

pub longer : (names : List CidParts) (i : ℕ) (c : CidParts) → i < length names → c ≡ get_or names i c → take i names ++ c ∷ [] ≡ take (i + 1) names
longer names i c within is = ap (λ y. take i names ++ y ∷ []) is ∙ sym (take-suc names i c within) ∙ ap (λ n. take n names) (sym (add-one i))

pub whole : (names : List CidParts) (i : ℕ) → i ≤ length names → length names ≤ i → take i names ≡ names
whole names i below end =
    let same : i ≡ length names = omega (arith, below, end) in
    ap (λ n. take n names) same ∙ take-length names

-- a name that is given once does not come before itself
pub fresh : (names : List CidParts) (i : ℕ) (c : CidParts) → NoneTwice names → i < length names → c ≡ get_or names i c → Among c (take i names) → ⊥
fresh [] i c once within is m = absurd (omega (arith, within))
fresh (n ∷ names) zero c once within is m = m
fresh (n ∷ names) (suc i) c once within is (inl e) = once.0 (subst (λ x. Among x names) e (item_among names i c (omega (arith, within)) is))
fresh (n ∷ names) (suc i) c once within is (inr m) = fresh names i c once.1 (omega (arith, within)) is m

pub leaves_in : {X : Type 0} (P : X → Type 0) (xs ys : List X) (x : X) → LeavesOut P xs ys → P x → LeavesOut P (xs ++ x ∷ []) ys
leaves_in P [] ys x l p = inl (p, l)
leaves_in P (z ∷ xs) ys x (inl k) p = inl (k.0, leaves_in P xs ys x k.1 p)
leaves_in P (z ∷ xs) ys x (inr k) p = inr (k.0, (k.1.0, k.1.1, leaves_in P xs k.1.0 x k.1.2 p))

leaves_on : {X : Type 0} (P : X → Type 0) (xs ys : List X) (x : X) → LeavesOut P xs ys → (P x → ⊥) → LeavesOut P (xs ++ x ∷ []) (ys ++ x ∷ [])
leaves_on P [] ys x l out = inr (out, ([], ap (λ zs. zs ++ x ∷ []) l, refl))
leaves_on P (z ∷ xs) ys x (inl k) out = inl (k.0, leaves_on P xs ys x k.1 out)
leaves_on P (z ∷ xs) ys x (inr k) out = inr (k.0, (k.1.0 ++ x ∷ [], ap (λ zs. zs ++ x ∷ []) k.1.1, leaves_on P xs k.1.0 x k.1.2 out))

-- leaving out the names that are so
pub leaves_among : {X : Type 0} (P : X → Type 0) (xs ys : List X) → LeavesOut P xs ys → (x : X) → Among x ys ↔ (Among x xs × (P x → ⊥))
leaves_among P [] ys l x = (λ m. absurd (subst (Among x) l m), λ k. absurd k.0)
leaves_among P (z ∷ xs) ys (inl k) x = (
  λ m. let w = (leaves_among P xs ys k.1 x).0 m in (inr w.0, w.1),
  λ w. elim w.0 [ inl e ↦ absurd (w.1 (subst P (sym e) k.0)) | inr m ↦ (leaves_among P xs ys k.1 x).1 (m, w.1) ],
)
leaves_among P (z ∷ xs) ys (inr k) x = (
  λ m. elim (subst (Among x) k.1.1 m) [
    | inl e ↦ (inl e, λ p. k.0 (subst P e p))
    | inr n ↦ let w = (leaves_among P xs k.1.0 k.1.2 x).0 n in (inr w.0, w.1)
  ],
  λ w. subst (Among x) (sym k.1.1) (elim w.0 [ inl e ↦ inl e | inr m ↦ inr ((leaves_among P xs k.1.0 k.1.2 x).1 (m, w.1)) ]),
)

-- the lines of names with no words after them
pub plain_lines : (names : List CidParts) → flat_map (line_after []) names ≡ flat_map cid_line names
plain_lines [] = refl
plain_lines (c ∷ names) = ap₂ (λ x xs. x ++ xs) (ap line (append-nil (cid_text c))) (plain_lines names)

-- ---- what is known of names

pub not_true : IsTrue false → ⊥
not_true h = cc

pub splits_none : (P : CidParts → Type 0) (t : Taken) → t.count ≡ 0 → t.others.items ≡ [] → Splits P [] t
splits_none P t count others = record { others = others; count = omega (arith, count, ap length others) }

splits_more : (P : CidParts → Type 0) (names : List CidParts) (c : CidParts) (was : Bool) (old new : Taken) → (IsTrue was ↔ P c) → Notes c was old new → Splits P names old → Splits P (names ++ c ∷ []) new
splits_more P names c true old new is n h = record {
  others = subst (LeavesOut P (names ++ c ∷ [])) (sym n.1) (leaves_in P names old.others.items c h.others (is.0 refl));
  count = omega (arith, n.0, ap length n.1, h.count, length-append names (c ∷ []));
}
splits_more P names c false old new is n h = record {
  others = subst (LeavesOut P (names ++ c ∷ [])) (sym n.1) (leaves_on P names old.others.items c h.others (λ p. not_true (is.1 p)));
  count = omega (arith, n.0, ap length n.1, length-append old.others.items (c ∷ []), h.count, length-append names (c ∷ []));
}

pub splits_next : (P : CidParts → Type 0) (names : List CidParts) (i : ℕ) (c : CidParts) (was : Bool) (old new : Taken) → i < length names → c ≡ get_or names i c → (IsTrue was ↔ P c) → Notes c was old new → Splits P (take i names) old → Splits P (take (i + 1) names) new
splits_next P names i c was old new within is so n h = subst (λ ns. Splits P ns new) (longer names i c within is) (splits_more P (take i names) c was old new so n h)

-- one more name was noted
pub counts_up : (c : CidParts) (was : Bool) (old new : Taken) (i : ℕ) → Notes c was old new → old.count ≤ i → new.count ≤ i + 1
counts_up c true old new i n below = omega (arith, n.0, below)
counts_up c false old new i n below = omega (arith, n.0, below)

-- each of the names is a CID
abbrev pub AreValid : List CidParts → Type 0
AreValid names = (c : CidParts) → Among c names → AreCidParts c

pub valid_next : (names : List CidParts) (i : ℕ) (c : CidParts) → i < length names → c ≡ get_or names i c → AreCidParts c → AreValid (take i names) → AreValid (take (i + 1) names)
valid_next names i c within is valid h = subst AreValid (longer names i c within is) (λ d m. elim (among_push d (take i names) c m) [ inl was ↦ h d was | inr e ↦ subst AreCidParts (sym e) valid ])

-- ---- forms

form_push : (names : List CidParts) (c : CidParts) (q : List ℕ) → Among q (forms (names ++ c ∷ [])) → Among q (forms names) ⊎ (q ≡ cid_bytes c)
form_push [] c q (inl e) = inr e
form_push [] c q (inr m) = absurd m
form_push (x ∷ xs) c q (inl e) = inl (inl e)
form_push (x ∷ xs) c q (inr m) = elim (form_push xs c q m) [ inl o ↦ inl (inr o) | inr e ↦ inr e ]

push_form : (names : List CidParts) (c : CidParts) (q : List ℕ) → Among q (forms names) ⊎ (q ≡ cid_bytes c) → Among q (forms (names ++ c ∷ []))
push_form [] c q (inl m) = absurd m
push_form [] c q (inr e) = inl e
push_form (x ∷ xs) c q (inl (inl e)) = inl e
push_form (x ∷ xs) c q (inl (inr m)) = inr (push_form xs c q (inl m))
push_form (x ∷ xs) c q (inr e) = inr (push_form xs c q (inr e))

-- ---- removing

pub none_removed : (v : View) → Changes (ListsOthers []) v v
none_removed v = record {
  trees = those_as (λ q. ⊤) (λ q. Among q (forms []) → ⊥) v.trees v.trees (λ q l. (λ t m. m, λ s. tt)) (those_all v.trees);
  committed = refl;
  is_open = refl;
  broken = refl;
}

removes_more : (old mid new : View) (names : List CidParts) (c : CidParts) (was : Bool) → Changes (ListsOthers names) old mid → IsTaken mid new c was → Changes (ListsOthers (names ++ c ∷ [])) old new
removes_more old mid new names c was h t = record {
  trees = those_as (λ q. (Among q (forms names) → ⊥) × (q ≡ cid_bytes c → ⊥)) (λ q. Among q (forms (names ++ c ∷ [])) → ⊥) old.trees new.trees alike (those_less (λ q. Among q (forms names) → ⊥) old mid new c was h.trees t);
  committed = t.committed ∙ h.committed;
  is_open = opened ∙ h.is_open;
  broken = t.broken ∙ h.broken;
}
  where
    opened : new.is_open ≡ mid.is_open
    opened = t.is_open ∙ sym t.was_open

    alike : (q : List ℕ) → IsListed (old.trees name_tree) q → ((Among q (forms names) → ⊥) × (q ≡ cid_bytes c → ⊥)) ↔ (Among q (forms (names ++ c ∷ [])) → ⊥)
    alike q l = (
      λ s m. elim (form_push names c q m) [ inl o ↦ s.0 o | inr e ↦ s.1 e ],
      λ s. (λ m. s (push_form names c q (inl m)), λ e. s (push_form names c q (inr e))),
    )

pub removes_next : (old mid new : View) (names : List CidParts) (i : ℕ) (c : CidParts) (was : Bool) → i < length names → c ≡ get_or names i c → Changes (ListsOthers (take i names)) old mid → IsTaken mid new c was → Changes (ListsOthers (take (i + 1) names)) old new
removes_next old mid new names i c was within is h t = subst (λ ns. Changes (ListsOthers ns) old new) (longer names i c within is) (removes_more old mid new (take i names) c was h t)

-- whether the name was listed before all of them
pub listed_before : (old mid new : View) (names : List CidParts) (c : CidParts) (was : Bool) → Changes (ListsOthers names) old mid → AreValid names → AreCidParts c → (Among c names → ⊥) → IsTaken mid new c was → IsTrue was ↔ ListsName old c
listed_before old mid new names c was h all valid new_name t = (
  λ yes. let l = t.was.0 yes in (l.0, ((h.trees.entries l.0 (cid_bytes c)).0 l.1).0),
  λ l. t.was.1 (l.0, (h.trees.entries l.0 (cid_bytes c)).1 (l.1, apart)),
)
  where
    apart : Among (cid_bytes c) (forms names) → ⊥
    apart m = let k = map_among cid_bytes (cid_bytes c) names m in new_name (subst (λ x. Among x names) (sym (cid_unique c k.0 valid (all k.0 k.1) k.2)) k.1)

-- the names that are given are those where each counts once
pub others_once : (names once : List CidParts) (old new : Trees) → AreOnceEach names once → ListsOthers once old new → ListsOthers names old new
others_once names once old new each h = those_as (λ q. Among q (forms once) → ⊥) (λ q. Among q (forms names) → ⊥) old new (λ q l. (
  λ s m. let k = map_among cid_bytes q names m in s (among_forms q k.0 once ((each.lists.all k.0).1 k.1) k.2),
  λ s m. let k = map_among cid_bytes q once m in s (among_forms q k.0 names ((each.lists.all k.0).0 k.1) k.2),
)) h

pub committed_all : (Does : Trees → Trees → Type 0) (old mid new : View) → Changes Does old mid → IsCommitted mid new → Commits Does old new
committed_all Does old mid new h c = record {
  trees = subst (Does old.trees) (sym c.trees) h.trees;
  committed = c.committed ∙ sym c.trees;
  is_open = c.is_open;
}

pub removed : (old mid new : View) (names once : List CidParts) → AreOnceEach names once → Changes (ListsOthers once) old mid → IsCommitted mid new → Commits (ListsOthers names) old new
removed old mid new names once each h c = committed_all (ListsOthers names) old mid new (record { trees = others_once names once old.trees mid.trees each h.trees; committed = h.committed; is_open = h.is_open; broken = h.broken }) c

pub taken_said : {S : Type 0} (g : Ghosts S) (TakesOut : S → S → Taken → Type 0) (words : List ℕ) (old new : S) (taken : Taken) (before heard after told : Option (List ℕ)) (r : Result Bool Fault) → TakesOut old new taken → SaysTaken words taken before heard r after told
    → SaysTakenOut g TakesOut words old before heard r new after told
taken_said g TakesOut words old new taken before heard after told (Ok well) h k = (taken, h, k)
taken_said g TakesOut words old new taken before heard after told (Err (fault.Store why)) h k = absurd k
taken_said g TakesOut words old new taken before heard after told (Err (fault.Tool e)) h k = (taken, h, k)
