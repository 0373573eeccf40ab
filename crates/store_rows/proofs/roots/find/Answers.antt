use Rattle.std.proofs.Common.{rules, arith, sym, subst, Some, to_z-of_z, SFits, w64}
use Rattle.sqlite_trees.specs.View.{IsClean}
use Rattle.sqlite_exec.specs.Loops.{left_of}
use Rattle.sqlite_exec.proofs.CheckLemmas.{stepped}
use Rattle.store_rows.specs.RootRows.{root_tree, FindsRoot}
use Rattle.store_rows.proofs.Rooting.{PassesTo, sought_roots, passes_none, passes_more, passes_found}
use Rattle.store_rows.proofs.roots.find.Goals as goal

pub rows-init : goal.rows-init
rows-init g c = (
  search rules,
  search rules,
  search rules,
  λ clean.
      let old = g.S.Store.view c.args.store.now in
      passes_none (old.trees root_tree) _ c.args.name.now (sought_roots old (g.S.Store.view c.seek.new.self) c.clear.new.self c.clear.ensures (c.in_ok-seek.ensures.ok clean)),
  search rules,
  search rules,
)

pub returns-in-Some-clause-ok : goal.returns-in-Some-clause-ok
returns-in-Some-clause-ok g c clean =
    let rows = (g.S.Store.view c.args.store.now).trees root_tree in
    let now = g.S.Store.view c.rows.store in
    let new = g.S.Store.view c.next.new.self in
    let mid : IsClean now = omega (arith, c.next.ensures.quiet.clean) in
    let fits : SFits w64 c.in-Some.id = search rules in
    let step = stepped now new 0 c.next.new.row (rw c.if-not-branch.false at (c.in_ok-next.ensures.ok clean)) in
    subst (λ i. FindsRoot rows c.args.name.now (Some i)) (sym (to_z-of_z fits))
    (passes_found rows (left_of new 0) c.args.name.now c.next.new.row c.in-Some.id (subst (λ l. PassesTo rows l c.args.name.now) step (c.rows.invariant.3 mid)) (rw c.in-Some.is at c.number_in.ensures))

pub rows-preserved : goal.rows-preserved
rows-preserved g c = (
  search rules,
  search rules,
  search rules,
  λ clean.
      let rows = (g.S.Store.view c.args.store.now).trees root_tree in
      let now = g.S.Store.view c.rows.store in
      let new = g.S.Store.view c.next.new.self in
      let mid : IsClean now = omega (arith, c.next.ensures.quiet.clean) in
      let step = stepped now new 0 c.next.new.row (rw c.if-not-branch.false at (c.in_ok-next.ensures.ok clean)) in
      passes_more rows (left_of new 0) c.args.name.now c.next.new.row (subst (λ l. PassesTo rows l c.args.name.now) step (c.rows.invariant.3 mid)) (rw c.in_default.is at c.number_in.ensures),
  search rules,
  search rules,
)
