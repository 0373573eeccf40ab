-- A database that was checked is a store.
use Rattle.std.proofs.Common.{◌≡◌, inl, inr, ℕ, List, false, refl, sym, ap, ◌∙◌, subst, IsTrue}
use Rattle.sqlite_value.specs.Order.{Row}
use Rattle.sqlite_trees.specs.Tree.{Trees}
use Rattle.sqlite_trees.specs.View.{View, IsClean, IsRolledBack, Commits, OnlyWrites, SetsTree}
use Rattle.sqlite_trees.specs.Objects.{catalog_tree, version_tree, version_rows}
use Rattle.sqlite_trees.specs.declared.store.Shape.{Shape}
use Rattle.sqlite_exec.specs.Calls.{OnlyReads}
use Rattle.store_rows.specs.Rows.{block_tree, name_tree, IsKeyed}
use Rattle.store_rows.specs.RootRows.{root_tree, IsRootShape}
use Rattle.store_on_disk.specs.Stored.{AreAllRoots, IsReady}
use Rattle.store_on_disk.specs.Opened.{HasTrees, OnlyMarks, IsChecked, IsOpened, IsSettled}
use Rattle.store_rows.proofs.Ending.{writes_set}
use Rattle.store_on_disk.proofs.Keeping.{open_of}

pub reads_then : (old mid new : View) → OnlyReads old mid → OnlyReads mid new → OnlyReads old new
reads_then old mid new h k = k ∙ ap (λ (v : View). record v { cursors = new.cursors }) h

pub checked_read : (old new : View) → OnlyReads old new → old.is_broken ≡ false → HasTrees old → IsKeyed (old.trees name_tree) → AreAllRoots (old.trees root_tree) → IsChecked old new
checked_read old new h sound has keyed roots =
    let trees = ap (λ (v : View). v.trees) h in
    let at = ap (λ (v : View). v.shape) h in
    record {
      blocks = ap (λ f. f block_tree) at ∙ has.blocks;
      names = ap (λ f. f name_tree) at ∙ has.names;
      rooted = subst (λ (f : ℕ → Shape). IsRootShape (f root_tree)) (sym at) has.rooted;
      was_sound = sound;
      sound = ap (λ (v : View). v.is_broken) h ∙ sound;
      keyed = subst (λ (t : Trees). IsKeyed (t name_tree)) (sym trees) keyed;
      roots = subst (λ (t : Trees). AreAllRoots (t root_tree)) (sym trees) roots;
      same = record { others = λ t out. ap (λ (u : Trees). u t) trees; version = inl (ap (λ (u : Trees). u version_tree) trees) };
      settled = λ e. trees ∙ e ∙ sym (ap (λ (v : View). v.committed) h);
      lasting = λ e. at ∙ e ∙ sym (ap (λ (v : View). v.committed_shape) h);
    }

-- what the new mark leaves in a database that had no version
pub marked_same : (old read mid : View) (edit : List Row → List Row) → OnlyReads old read → read.trees version_tree ≡ version_rows 0 → SetsTree read mid version_tree edit → OnlyMarks old.trees mid.trees
marked_same old read mid edit h none set =
    let trees = ap (λ (v : View). v.trees) h in
    record {
      others = λ t out. (writes_set (λ u. u ≡ version_tree) version_tree read mid edit refl (only_set read mid edit set) set).others t out ∙ ap (λ (u : Trees). u t) trees;
      version = inr (ap (λ (u : Trees). u version_tree) (sym trees) ∙ none);
    }
  where
    only_set : (a b : View) (e : List Row → List Row) → SetsTree a b version_tree e → OnlyWrites a b
    only_set a b e k = k.is ∙ ap (λ t. record a { trees = t; cursors = b.cursors }) (sym (ap (λ (v : View). v.trees) k.is))

-- what the mark leaves with its commit
pub checked_marked : (old read mid new : View) (edit : List Row → List Row) → IsChecked old read → OnlyMarks old.trees mid.trees → SetsTree read mid version_tree edit → Commits mid new → IsChecked old new
checked_marked old read mid new edit was same set done =
    let trees = ap (λ (v : View). v.trees) done.is ∙ ap (λ (v : View). v.trees) set.is in
    let at = ap (λ (v : View). v.shape) done.is ∙ ap (λ (v : View). v.shape) set.is in
    record {
      blocks = ap (λ f. f block_tree) at ∙ was.blocks;
      names = ap (λ f. f name_tree) at ∙ was.names;
      rooted = subst (λ (f : ℕ → Shape). IsRootShape (f root_tree)) (sym at) was.rooted;
      was_sound = was.was_sound;
      sound = ap (λ (v : View). v.is_broken) done.is ∙ ap (λ (v : View). v.is_broken) set.is ∙ was.sound;
      keyed = subst IsKeyed (sym (ap (λ t. t name_tree) trees)) was.keyed;
      roots = subst AreAllRoots (sym (ap (λ t. t root_tree) trees)) was.roots;
      same = subst (OnlyMarks old.trees) (sym (ap (λ (v : View). v.trees) done.is)) same;
      settled = λ e. ap (λ (v : View). v.trees) done.is ∙ sym (ap (λ (v : View). v.committed) done.is);
      lasting = λ e. ap (λ (v : View). v.shape) done.is ∙ sym (ap (λ (v : View). v.committed_shape) done.is);
    }

-- ---- after a rollback

module _ (old rolled : View) (clean : IsClean rolled) (undone : IsRolledBack old rolled) (sound : rolled.is_broken ≡ false) (shut : rolled.is_open ≡ false → IsTrue rolled.is_broken)
    (unaltered : rolled.is_broken ≡ false → rolled.trees catalog_tree ≡ rolled.committed catalog_tree → (rolled.shape ≡ rolled.committed_shape) × (rolled.reals ≡ rolled.committed_reals)) where
  is_open : IsTrue rolled.is_open
  is_open = open_of rolled shut sound

  committed : rolled.committed ≡ old.committed
  committed = (undone.kept clean).committed is_open

  settled : rolled.trees ≡ rolled.committed
  settled = (undone.undone is_open).0 ∙ sym committed

  lasting : rolled.shape ≡ rolled.committed_shape
  lasting = (unaltered sound (ap (λ t. t catalog_tree) settled)).0

  pub ready_checked : (new : View) → IsChecked rolled new → IsReady new
  ready_checked new c = record {
    blocks = c.blocks;
    names = c.names;
    lasting = c.lasting lasting;
    listed = λ h. ap (λ (t : Trees). t catalog_tree) (c.settled settled);
    unbroken = λ h. c.sound;
    keyed = λ h. c.keyed;
    committed = λ h. subst (λ (t : Trees). IsKeyed (t name_tree)) (c.settled settled) c.keyed;
    rooted = c.rooted;
    roots = λ h. c.roots;
    last_roots = λ h. subst (λ (t : Trees). AreAllRoots (t root_tree)) (c.settled settled) c.roots;
  }

  pub is_opened : (new : View) → (new.is_open ≡ false → IsTrue new.is_broken) → IsChecked rolled new → IsOpened old new
  is_opened new shut_now c = record {
    is_open = open_of new shut_now c.sound;
    now = subst (λ (t : Trees). OnlyMarks t new.trees) (settled ∙ committed) c.same;
    committed = sym (c.settled settled);
  }

pub is_settled : (old new : View) → IsOpened old new → IsSettled new
is_settled old new h = record { is_open = h.is_open; committed = h.committed }
