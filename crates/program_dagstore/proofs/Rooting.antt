-- The roots that a store keeps: those that a command uses, and how they change.
use Rattle.std.proofs.Common.{◌≡◌, ◌⊎◌, inl, inr, ℕ, ◌+◌, ◌<◌, List, [], ◌∷◌, ◌++◌, length, take, get_or, Bool, refl, sym, ◌∙◌, subst, arith, IsTrue, ◌↔◌, Option, Result, Ok, Err}
use Rattle.sqlite_trees.specs.Tree.{Trees}
use Rattle.sqlite_trees.specs.View.{View, IsClean}
use Rattle.sqlite_trees.specs.declared.store.Store.{Ghosts}
use Rattle.sqlite_trees.specs.declared.error.StoreError.{StoreError}
use Rattle.sqlite_trees.specs.declared.error.StoreError.TheVariants as stored
use Rattle.ipld_tree.specs.Cid.{CidParts, cid_bytes}
use Rattle.files_car.specs.Car.{Section}
use Rattle.ipld_links.specs.Sets.{Among}
use Rattle.ipld_links.specs.Reaching.{NoneTwice}
use Rattle.ipld_links.proofs.Members.{among_push, push_among}
use Rattle.store_on_disk.specs.Rows.{name_tree, IsStored, IsListed}
use Rattle.store_on_disk.specs.RootRows.{LeavesOut}
use Rattle.store_on_disk.specs.Ends.{Quiet, KeepsOthers, IsOfBlocks}
use Rattle.store_on_disk.specs.Stored.{IsSame, IsUndone, IsCommitted, FailsByStore, TellsOfStore}
use Rattle.ipld_paths.specs.Resolving.{AreOnceEach}
use Rattle.store_on_disk.specs.Roots.{HasRoots, AreRootsAdded, IsAnyTooLong, RootsRefused, IsRootTaken}
use Rattle.store_on_disk.specs.Cars.{IsSectionIn, RootsNotKept}
use Rattle.store_on_disk.specs.Walking.{AreBlocks, AreFirstBlocks}
use Rattle.store_on_disk.specs.Collecting.{KeepsReachable, TakesOut, IsCollected, HoldsThose, IsLedForm}
use Rattle.store_on_disk.proofs.Adding.{KeepsLast, last_itself, last_same, last_then, last_undone, undone_then, fails_after}
use Rattle.store_on_disk.proofs.ManyRoots.{last_rooted}
use Rattle.store_on_disk.proofs.Reading.{roots_not_kept}
use Rattle.store_on_disk.proofs.Trees.{shows_same}
use Rattle.store_on_disk.proofs.Marking.{have_same, known_same, collect_after}
use Rattle.store_on_disk.proofs.Walking.{same_then, walk_refused}
use Rattle.store_on_disk.specs.declared.error.StoreRefusal.{StoreRefusal}
use Rattle.store_on_disk.specs.declared.error.StoreRefusal.TheVariants as refusal
use Rattle.program_dagstore.specs.Changes.{SaysCollected, Changes, Commits, Notes}
use Rattle.program_dagstore.specs.Files.{Exports}
use Rattle.program_dagstore.specs.Roots.{AreMeant, DropsRoots, SplitsRoots}
use Rattle.program_dagstore.proofs.Removing.{longer, fresh, leaves_among, splits_next, committed_all}
use Rattle.program_dagstore.specs.declared.taken.Taken.{Taken}
use Rattle.program_dagstore.specs.declared.fault.Fault.{Fault}
use Rattle.program_dagstore.specs.declared.fault.Fault.TheVariants as fault

-- ---- after a call that changed nothing

keeps_from : (old mid : View) (roots : List CidParts) (db : Trees) → IsSame old mid → KeepsReachable mid roots db → KeepsReachable old roots db
keeps_from old mid roots db same h = (
  λ name m. have_same old mid name same (h.0 name m),
  λ stored shows.
      let k = h.1 stored (shows_same old mid stored same shows) in (
        subst (λ t. HoldsThose (IsLedForm stored roots) t db) same.trees k.0,
        λ name led. known_same old mid name same (k.1 name led),
      ),
)

collected_from : (old mid new : View) (roots : List CidParts) (count : ℕ) → IsSame old mid → IsCollected mid new roots count → IsCollected old new roots count
collected_from old mid new roots count same h = record {
  trees = keeps_from old mid roots new.trees same h.trees;
  beside = subst (λ t. KeepsOthers IsOfBlocks t new.trees) same.trees h.beside;
  taken = subst (λ t. TakesOut t new.trees count) same.trees h.taken;
  committed = h.committed;
  is_open = h.is_open;
}

first_from : (old mid : View) (sections : List Section) → IsSame old mid → AreFirstBlocks mid sections → AreFirstBlocks old sections
first_from old mid sections same h = record {
  stored = λ s m. subst (λ (t : Trees). IsStored t (cid_bytes s.0) s.1 × ((d : List ℕ) → IsStored t (cid_bytes s.0) d → d ≡ s.1)) same.trees (h.stored s m);
  rising = h.rising;
  reached = λ q l. h.reached q (subst (λ (t : Trees). IsListed (t name_tree) q) (sym same.trees) l);
}

blocks_from : (old mid : View) (sections : List Section) → IsSame old mid → AreBlocks mid sections → AreBlocks old sections
blocks_from old mid sections same h = record {
  stored = λ q b. subst (λ (t : Trees). IsSectionIn sections q b ↔ IsStored t q b) same.trees (h.stored q b);
  lists = λ q l. h.lists q (subst (λ (t : Trees). IsListed (t name_tree) q) (sym same.trees) l);
  rising = h.rising;
}

module _ {S : Type 0} (g : Ghosts S) (old mid new : S) (before_quiet : Quiet g old mid) (same : IsClean (g.view mid) → IsSame (g.view old) (g.view mid)) where
  pub keeps_then : (roots : List CidParts) (db : Trees) → IsClean (g.view mid) → KeepsReachable (g.view mid) roots db → KeepsReachable (g.view old) roots db
  keeps_then roots db clean h = keeps_from (g.view old) (g.view mid) roots db (same clean) h

  module _ (quiet : Quiet g mid new) where
    was : IsClean (g.view new) → IsClean (g.view mid)
    was clean = omega (arith, quiet.clean)

    pub exports_from : (roots : List (List ℕ)) (out after : Option (List ℕ)) (r : Result Bool Fault) → Exports g roots mid out r new after → Exports g roots old out r new after
    exports_from roots out after (Ok well) k = (
      k.0,
      record {
        sections = k.1.sections;
        named = k.1.named;
        is_car = k.1.is_car;
        sent = k.1.sent;
        are_so = λ clean. let w = k.1.are_so clean in (blocks_from (g.view old) (g.view mid) k.1.sections (same (was clean)) w.0, same_then (g.view old) (g.view mid) (g.view new) (same (was clean)) w.1);
      },
    )
    exports_from roots out after (Err (fault.Store told)) k = (
      record { sections = k.0.sections; named = k.0.named; sent = k.0.sent; are_so = λ clean. first_from (g.view old) (g.view mid) k.0.sections (same (was clean)) (k.0.are_so clean) },
      walk_refused g old mid new told before_quiet same quiet k.1,
    )
    exports_from roots out after (Err (fault.Tool e)) k = (
      k.0,
      record {
        sections = k.1.sections;
        named = k.1.named;
        sent = k.1.sent;
        are_so = λ clean. let w = k.1.are_so clean in (first_from (g.view old) (g.view mid) k.1.sections (same (was clean)) w.0, same_then (g.view old) (g.view mid) (g.view new) (same (was clean)) w.1);
      },
    )

  pub collects_from : (roots : List CidParts) (out after : Option (List ℕ)) (r : Result Bool Fault) → (IsClean (g.view new) → IsClean (g.view mid)) → SaysCollected g roots mid out r new after → SaysCollected g roots old out r new after
  collects_from roots out after (Ok well) was k = (k.0, λ clean. collected_from (g.view old) (g.view mid) (g.view new) roots k.0 (same (was clean)) (k.1 clean), k.2, k.3)
  collects_from roots out after (Err (fault.Store told)) was k = (collect_after g roots old mid new told before_quiet same was k.0, k.1)
  collects_from roots out after (Err (fault.Tool e)) was k = (k.0, λ clean. collected_from (g.view old) (g.view mid) (g.view new) roots k.0 (same (was clean)) (k.1 clean), k.2)

-- the roots that are used, seen after another call
pub meant_later : (old mid new : View) (given roots : List CidParts) → (IsClean new → IsClean mid) → AreMeant old mid given roots → AreMeant old new given roots
meant_later old mid new given roots was (inl k) = inl (k.0, λ clean. k.1 (was clean))
meant_later old mid new given roots was (inr k) = inr k

-- ---- adding

tells_no_version : (e : StoreError) → TellsOfStore e refusal.EarlierVersion → ⊥
tells_no_version stored.OutOfMemory t = cc t
tells_no_version stored.Unstorable t = cc t
tells_no_version stored.Broken (inl t) = cc t
tells_no_version stored.Broken (inr t) = t
tells_no_version e t = cc t

tells_no_number : (e : StoreError) → TellsOfStore e refusal.NoNumber → ⊥
tells_no_number stored.OutOfMemory t = cc t
tells_no_number stored.Unstorable t = cc t
tells_no_number stored.Broken (inl t) = cc t
tells_no_number stored.Broken (inr t) = t
tells_no_number e t = cc t

module _ {S : Type 0} (g : Ghosts S) (names : List CidParts) where
  last_refused : (old new : S) (told : StoreRefusal) → IsClean (g.view new) → RootsRefused g names old new told → KeepsLast (g.view old) (g.view new)
  last_refused old new refusal.EarlierVersion clean k = subst (λ (s : S). KeepsLast (g.view old) (g.view s)) (sym k.2) (last_itself (g.view old))
  last_refused old new refusal.NoNumber clean p =
      let k = p clean in
      last_then (g.view old) k.held (g.view new) (last_rooted (g.view old) k.held k.first k.added) (last_same k.held (g.view new) k.same)
  last_refused old new told clean k = last_undone (g.view old) (g.view new) (k.undone clean)

  -- a rollback after some names, one of which was refused
  pub adding_undone : (old failed new : S) (told : StoreRefusal) → Quiet g failed new → g.blamed new ≡ g.blamed failed → (IsClean (g.view new) → IsUndone (g.view failed) (g.view new)) → RootsRefused g names old failed told
      → RootsNotKept g names old new told × (IsClean (g.view new) → IsUndone (g.view old) (g.view new))
  adding_undone old failed new told quiet blame undone h = (
    roots_not_kept g names old failed new told quiet blame undone h,
    λ clean. undone_then (g.view old) (g.view failed) (g.view new) (last_refused old failed told (omega (arith, quiet.clean)) h) (undone clean),
  )

  module _ (old mid new : S) (before : Quiet g old mid) (was : IsClean (g.view new) → IsClean (g.view mid)) (added : IsClean (g.view mid) → AreRootsAdded (g.view old) (g.view mid) names) where
    failed_after : (told : StoreRefusal) → FailsByStore g ⊥ mid new told → FailsByStore g (IsAnyTooLong (g.view old) names) old new told
    failed_after told f = fails_after g ⊥ (IsAnyTooLong (g.view old) names) old mid new told before was (λ clean. let a = added clean in (a.broken, last_rooted (g.view old) (g.view mid) names a, λ u. absurd u)) f

    not_kept : (told : StoreRefusal) → FailsByStore g ⊥ mid new told → RootsNotKept g names old new told
    not_kept refusal.EarlierVersion f = absurd (tells_no_version f.error f.tells)
    not_kept refusal.NoNumber f = absurd (tells_no_number f.error f.tells)
    not_kept told f = failed_after told f

    -- a commit that failed
    pub adding_failed : (told : StoreRefusal) → FailsByStore g ⊥ mid new told → RootsNotKept g names old new told × (IsClean (g.view new) → IsUndone (g.view old) (g.view new))
    adding_failed told f = (not_kept told f, λ clean. (failed_after told f).undone clean)

-- ---- taking out

-- leaving out items of one kind, and then of another
leaves_then : {X : Type 0} (P Q R : X → Type 0) → ((x : X) → R x ↔ (P x ⊎ Q x)) → (xs ys zs : List X) → LeavesOut P xs ys → LeavesOut Q ys zs → LeavesOut R xs zs
leaves_then P Q R both [] ys zs l m = subst (λ y. LeavesOut Q y zs) l m
leaves_then P Q R both (x ∷ xs) ys zs (inl k) m = inl ((both x).1 (inl k.0), leaves_then P Q R both xs ys zs k.1 m)
leaves_then P Q R both (x ∷ xs) ys zs (inr k) m = elim (subst (λ y. LeavesOut Q y zs) k.1.1 m) [
  | inl n ↦ inl ((both x).1 (inr n.0), leaves_then P Q R both xs k.1.0 zs k.1.2 n.1)
  | inr n ↦ inr (λ r. elim ((both x).0 r) [ inl p ↦ k.0 p | inr q ↦ n.0 q ], (n.1.0, n.1.1, leaves_then P Q R both xs k.1.0 n.1.0 k.1.2 n.1.2))
]

leaves_as : {X : Type 0} (P Q : X → Type 0) → ((x : X) → P x ↔ Q x) → (xs ys : List X) → LeavesOut P xs ys → LeavesOut Q xs ys
leaves_as P Q alike [] ys l = l
leaves_as P Q alike (x ∷ xs) ys (inl k) = inl ((alike x).0 k.0, leaves_as P Q alike xs ys k.1)
leaves_as P Q alike (x ∷ xs) ys (inr k) = inr (λ q. k.0 ((alike x).1 q), (k.1.0, k.1.1, leaves_as P Q alike xs k.1.0 k.1.2))

leaves_nothing : {X : Type 0} (xs : List X) → LeavesOut (λ x. ⊥) xs xs
leaves_nothing [] = refl
leaves_nothing (x ∷ xs) = inr (λ out. out, (xs, refl, leaves_nothing xs))

pub none_dropped : (v : View) → Changes (DropsRoots []) v v
none_dropped v = record {
  trees = record { roots = λ before are. (before, are, leaves_nothing before); beside = λ t other. refl };
  committed = refl;
  is_open = refl;
  broken = refl;
}

drops_more : (old mid new : View) (names : List CidParts) (c : CidParts) (was : Bool) → Changes (DropsRoots names) old mid → IsRootTaken mid new c was → Changes (DropsRoots (names ++ c ∷ [])) old new
drops_more old mid new names c was h t = record {
  trees = record {
    roots = λ before are.
        let k = h.trees.roots before are in
        let n = t.roots k.0 k.1 in
        (n.1.0, n.1.1, leaves_then (λ x. Among x names) (λ x. x ≡ c) (λ x. Among x (names ++ c ∷ [])) (λ x. (among_push x names c, push_among x names c)) before k.0 n.1.0 k.2 n.1.2);
    beside = λ x other. t.beside x other ∙ h.trees.beside x other;
  };
  committed = t.committed ∙ h.committed;
  is_open = opened ∙ h.is_open;
  broken = t.broken ∙ h.broken;
}
  where
    opened : new.is_open ≡ mid.is_open
    opened = t.is_open ∙ sym t.was_open

pub drops_next : (old mid new : View) (names : List CidParts) (i : ℕ) (c : CidParts) (was : Bool) → i < length names → c ≡ get_or names i c → Changes (DropsRoots (take i names)) old mid → IsRootTaken mid new c was → Changes (DropsRoots (take (i + 1) names)) old new
drops_next old mid new names i c was within is h t = subst (λ ns. Changes (DropsRoots ns) old new) (longer names i c within is) (drops_more old mid new (take i names) c was h t)

-- whether the name was a root before all of them
root_before : (old mid new : View) (names : List CidParts) (c : CidParts) (was : Bool) (roots : List CidParts) → Changes (DropsRoots names) old mid → (Among c names → ⊥) → IsRootTaken mid new c was → HasRoots old roots → IsTrue was ↔ Among c roots
root_before old mid new names c was roots h new_name t has =
    let k = h.trees.roots roots has in
    let is = (t.roots k.0 k.1).0 in
    let left = leaves_among (λ x. Among x names) roots k.0 k.2 c in
    (λ yes. (left.0 (is.0 yes)).0, λ m. is.1 (left.1 (m, new_name)))

pub roots_split : (old mid new : View) (names : List CidParts) (i : ℕ) (c : CidParts) (was : Bool) (before after : Taken) → i < length names → c ≡ get_or names i c → NoneTwice names → Changes (DropsRoots (take i names)) old mid → IsRootTaken mid new c was → Notes c was before after
    → SplitsRoots old (take i names) before → SplitsRoots old (take (i + 1) names) after
roots_split old mid new names i c was before after within is once h t n s roots has =
    splits_next (λ x. Among x roots) names i c was before after within is (root_before old mid new (take i names) c was roots h (fresh names i c once within is) t has) n (s roots has)

-- the names that are given are those where each counts once
pub drops_once : (names once : List CidParts) (old new : Trees) → AreOnceEach names once → DropsRoots once old new → DropsRoots names old new
drops_once names once old new each h = record {
  roots = λ before are. let k = h.roots before are in (k.0, k.1, leaves_as (λ x. Among x once) (λ x. Among x names) each.lists.all before k.0 k.2);
  beside = h.beside;
}

pub dropped : (old mid new : View) (names once : List CidParts) → AreOnceEach names once → Changes (DropsRoots once) old mid → IsCommitted mid new → Commits (DropsRoots names) old new
dropped old mid new names once each h c = committed_all (DropsRoots names) old mid new (record { trees = drops_once names once old.trees mid.trees each h.trees; committed = h.committed; is_open = h.is_open; broken = h.broken }) c
