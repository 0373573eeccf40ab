use Rattle.std.proofs.Common.{arith, inl, inr, sym, ap, ◌∙◌, subst}
use Rattle.sqlite_trees.specs.Tree.{Trees}
use Rattle.sqlite_trees.specs.View.{View, IsClean}
use Rattle.sqlite_trees.specs.Objects.{version_rows}
use Rattle.store_rows.specs.RootRows.{root_tree}
use Rattle.store_on_disk.specs.Stored.{AreAllRoots}
use Rattle.store_on_disk.specs.Opened.{OnlyMarks}
use Rattle.store_on_disk.proofs.Keeping.{open_of}
use Rattle.store_on_disk.proofs.Opening.{reads_then, checked_read, marked_same, checked_marked}
use Rattle.store_on_disk.proofs.open.check.Goals as goal

pub returns-in_default-version-clause-ok : goal.returns-in_default-version-clause-ok
returns-in_default-version-clause-ok g c clean =
    let old = g.S.Store.view c.args.store.now in
    let mid = g.S.Store.view c.survey.new.store in
    let read = g.S.Store.view c.list.new.store in
    let was : IsClean mid = omega (arith, c.list.ensures.ends.quiet.clean) in
    let first = c.in_ok-count.ensures.ends.frame was in
    let roots = subst (λ (t : Trees). AreAllRoots (t root_tree)) (ap (λ (v : View). v.trees) first) (c.in-Some-3.names.items, rw c.in-Some-3.is at (c.in_ok-names.ensures.ok clean)) in
    checked_read old read (reads_then old mid read first (c.in_ok-names.ensures.ends.frame clean)) (c.in_ok-count.ensures.ends.sound was) (rw c.in-Some.is at c.version_of.ensures)
    ((rw c.in-Some-2.is at (c.in_ok-count.ensures.ok was))).0 roots

pub returns-in-0-clause-ok : goal.returns-in-0-clause-ok
returns-in-0-clause-ok g c clean =
    let old = g.S.Store.view c.args.store.now in
    let counted = g.S.Store.view c.survey.new.store in
    let read = g.S.Store.view c.list.new.store in
    let marked = g.S.Store.view c.set_version.new.self in
    let clean3 : IsClean marked = omega (arith, c.commit.ensures.clean) in
    let clean2 : IsClean read = omega (arith, c.set_version.ensures.quiet.clean, c.commit.ensures.clean) in
    let clean1 : IsClean counted = omega (arith, c.list.ensures.ends.quiet.clean, c.set_version.ensures.quiet.clean, c.commit.ensures.clean) in
    let first = c.in_ok-count.ensures.ends.frame clean1 in
    let sound = c.in_ok-count.ensures.ends.sound clean1 in
    let reads = reads_then old counted read first (c.in_ok-names.ensures.ends.frame clean2) in
    let on = open_of read (g.met.S.Store.broken_if_shut c.list.new.store) (ap (λ (v : View). v.is_broken) reads ∙ sound) in
    let none = c.version-found.ensures clean2 on ∙ ap version_rows c.in-0.is in
    let set = c.in_ok-set_version-in-0.ensures.ok clean3 in
    let same = marked_same old read marked (λ rows. version_rows c.in-Some.version) reads none set in
    let roots = subst (λ (t : Trees). AreAllRoots (t root_tree)) (ap (λ (v : View). v.trees) first) (c.in-Some-3.names.items, rw c.in-Some-3.is at (c.in_ok-names.ensures.ok clean2)) in
    let checked = checked_read old read reads sound (rw c.in-Some.is at c.version_of.ensures) ((rw c.in-Some-2.is at (c.in_ok-count.ensures.ok clean1))).0 roots in
    checked_marked old read marked (g.S.Store.view c.commit.new.self) (λ rows. version_rows c.in-Some.version) checked same set (c.in_ok-commit-in-0.ensures.ok clean)

pub returns-in_err-commit-in-0-clause-crash : goal.returns-in_err-commit-in-0-clause-crash
returns-in_err-commit-in-0-clause-crash g c db h = elim (c.commit.ensures.crash db h) [
  | inl left ↦ inr (λ clean.
      let old = g.S.Store.view c.args.store.now in
      let counted = g.S.Store.view c.survey.new.store in
      let read = g.S.Store.view c.list.new.store in
      let marked = g.S.Store.view c.set_version.new.self in
      let clean3 : IsClean marked = omega (arith, c.commit.ensures.clean) in
      let clean2 : IsClean read = omega (arith, c.set_version.ensures.quiet.clean, c.commit.ensures.clean) in
      let clean1 : IsClean counted = omega (arith, c.list.ensures.ends.quiet.clean, c.set_version.ensures.quiet.clean, c.commit.ensures.clean) in
      let first = c.in_ok-count.ensures.ends.frame clean1 in
      let sound = c.in_ok-count.ensures.ends.sound clean1 in
      let reads = reads_then old counted read first (c.in_ok-names.ensures.ends.frame clean2) in
      let on = open_of read (g.met.S.Store.broken_if_shut c.list.new.store) (ap (λ (v : View). v.is_broken) reads ∙ sound) in
      let none = c.version-found.ensures clean2 on ∙ ap version_rows c.in-0.is in
      let set = c.in_ok-set_version-in-0.ensures.ok clean3 in
      let same = marked_same old read marked (λ rows. version_rows c.in-Some.version) reads none set in
      (open_of old (g.met.S.Store.broken_if_shut c.args.store.now) sound, subst (OnlyMarks old.trees) (sym left.1) same))
  | inr was ↦ inl (c.survey.ensures.ends.quiet.outcomes db (c.list.ensures.ends.quiet.outcomes db (c.set_version.ensures.quiet.outcomes db was)))
]

pub returns-in-0-clause-crash : goal.returns-in-0-clause-crash
returns-in-0-clause-crash g c db h = elim (c.commit.ensures.crash db h) [
  | inl left ↦ inr (λ clean.
      let old = g.S.Store.view c.args.store.now in
      let counted = g.S.Store.view c.survey.new.store in
      let read = g.S.Store.view c.list.new.store in
      let marked = g.S.Store.view c.set_version.new.self in
      let clean3 : IsClean marked = omega (arith, c.commit.ensures.clean) in
      let clean2 : IsClean read = omega (arith, c.set_version.ensures.quiet.clean, c.commit.ensures.clean) in
      let clean1 : IsClean counted = omega (arith, c.list.ensures.ends.quiet.clean, c.set_version.ensures.quiet.clean, c.commit.ensures.clean) in
      let first = c.in_ok-count.ensures.ends.frame clean1 in
      let sound = c.in_ok-count.ensures.ends.sound clean1 in
      let reads = reads_then old counted read first (c.in_ok-names.ensures.ends.frame clean2) in
      let on = open_of read (g.met.S.Store.broken_if_shut c.list.new.store) (ap (λ (v : View). v.is_broken) reads ∙ sound) in
      let none = c.version-found.ensures clean2 on ∙ ap version_rows c.in-0.is in
      let set = c.in_ok-set_version-in-0.ensures.ok clean3 in
      let same = marked_same old read marked (λ rows. version_rows c.in-Some.version) reads none set in
      (open_of old (g.met.S.Store.broken_if_shut c.args.store.now) sound, subst (OnlyMarks old.trees) (sym left.1) same))
  | inr was ↦ inl (c.survey.ensures.ends.quiet.outcomes db (c.list.ensures.ends.quiet.outcomes db (c.set_version.ensures.quiet.outcomes db was)))
]
