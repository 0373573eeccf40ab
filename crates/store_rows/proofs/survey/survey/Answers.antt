use Rattle.std.proofs.Common.{rules, arith, ◌+◌, ap, sym, subst, ◌∙◌}
use Rattle.sqlite_value.specs.Keys.{plain}
use Rattle.sqlite_trees.specs.Tree.{from_key}
use Rattle.sqlite_trees.specs.View.{IsClean}
use Rattle.sqlite_exec.specs.Loops.{left_of}
use Rattle.sqlite_exec.proofs.CheckLemmas.{from_no_key, stepped, ended}
use Rattle.store_rows.specs.Rows.{name_tree}
use Rattle.store_rows.proofs.Finding.{sought_name, index_rises}
use Rattle.store_rows.proofs.Surveying.{Surveyed, survey_begun, survey_more, survey_done, survey_broken}
use Rattle.store_rows.proofs.survey.survey.Goals as goal

pub entries-init : goal.entries-init
entries-init g c = (
  search rules,
  search rules,
  search rules,
  λ clean.
      let old = g.S.Store.view c.args.store.now in
      let was : IsClean old = omega (arith, c.seek.ensures.quiet.clean) in
      let at = sought_name old (g.S.Store.view c.seek.new.self) c.clear.new.self (c.requires.names was) (c.in_ok-seek.ensures.ok clean) in
      let all = at ∙ ap (λ k. from_key plain k (old.trees name_tree)) c.clear.ensures ∙ from_no_key plain (old.trees name_tree) in
      subst (λ r. Surveyed (old.trees name_tree) (left_of (g.S.Store.view c.seek.new.self) 0) r 0) (sym c.new-last.ensures) (survey_begun (old.trees name_tree) _ all),
  search rules,
  search rules,
)

pub returns-then-not-branch-clause-ok : goal.returns-then-not-branch-clause-ok
returns-then-not-branch-clause-ok g c clean =
    let entries = (g.S.Store.view c.args.store.now).trees name_tree in
    let now = g.S.Store.view c.entries.store in
    let mid : IsClean now = omega (arith, c.next.ensures.quiet.clean) in
    survey_done entries (left_of now 0) c.entries.last c.entries.count (ended now _ 0 c.next.new.row (rw c.if-not-branch.true at (c.in_ok-next.ensures.ok clean))) (c.entries.invariant.3 mid)

pub returns-then-not-follows-clause-ok : goal.returns-then-not-follows-clause-ok
returns-then-not-follows-clause-ok g c clean =
    let old = g.S.Store.view c.args.store.now in
    let entries = old.trees name_tree in
    let now = g.S.Store.view c.entries.store in
    let mid : IsClean now = omega (arith, c.next.ensures.quiet.clean) in
    let was : IsClean old = omega (arith, c.entries.invariant.2.clean) in
    let up = index_rises old (c.requires.names was) (g.met.S.Store.ordered c.args.store.now (c.entries.invariant.5 mid)) in
    let step = stepped now (g.S.Store.view c.next.new.self) 0 c.next.new.row (rw c.if-not-branch.false at (c.in_ok-next.ensures.ok clean)) in
    survey_broken entries (left_of (g.S.Store.view c.next.new.self) 0) c.entries.last c.next.new.row c.entries.count up (subst (λ l. Surveyed entries l c.entries.last c.entries.count) step (c.entries.invariant.3 mid)) (rw c.if-not-follows.true at c.follows.ensures)

pub entries-preserved : goal.entries-preserved
entries-preserved g c = (
  search rules,
  search rules,
  search rules,
  λ clean.
      let old = g.S.Store.view c.args.store.now in
      let entries = old.trees name_tree in
      let now = g.S.Store.view c.entries.store in
      let mid : IsClean now = omega (arith, c.next.ensures.quiet.clean) in
      let was : IsClean old = omega (arith, c.entries.invariant.2.clean) in
      let up = index_rises old (c.requires.names was) (g.met.S.Store.ordered c.args.store.now (c.entries.invariant.5 mid)) in
      let step = stepped now (g.S.Store.view c.next.new.self) 0 c.next.new.row (rw c.if-not-branch.false at (c.in_ok-next.ensures.ok clean)) in
      let f = rw c.if-not-follows.false at c.follows.ensures in
      subst (λ r. Surveyed entries (left_of (g.S.Store.view c.next.new.self) 0) r (c.entries.count + 1)) (sym c.swap.ensures.y_after)
      (survey_more entries (left_of (g.S.Store.view c.next.new.self) 0) c.entries.last c.next.new.row c.entries.count up (subst (λ l. Surveyed entries l c.entries.last c.entries.count) step (c.entries.invariant.3 mid)) f.0 f.1),
  search rules,
  search rules,
)
