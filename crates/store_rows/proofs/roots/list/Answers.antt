use Rattle.std.proofs.Common.{rules, arith, sym, subst}
use Rattle.std.proofs.lemmas.Result.{err_from_is_err_and}
use Rattle.sqlite_trees.specs.View.{IsClean}
use Rattle.sqlite_exec.specs.Loops.{left_of}
use Rattle.sqlite_exec.proofs.CheckLemmas.{stepped}
use Rattle.store_rows.specs.RootRows.{root_tree}
use Rattle.store_rows.proofs.Ending.{walk_fails, walk_stops}
use Rattle.store_rows.proofs.Rooting.{ListsTo, sought_roots, lists_none, lists_more, lists_no}
use Rattle.store_rows.proofs.roots.list.Goals as goal

pub rows-init : goal.rows-init
rows-init g c = (
  search rules,
  search rules,
  search rules,
  λ clean.
      let rows = (g.S.Store.view c.args.store.now).trees root_tree in
      let new = g.S.Store.view c.seek.new.self in
      subst (ListsTo rows (left_of new 0)) (sym c.new-names.ensures.items) (lists_none rows (left_of new 0) (sought_roots (g.S.Store.view c.args.store.now) new c.clear.new.self c.clear.ensures (c.in_ok-seek.ensures.ok clean))),
  search rules,
  search rules,
)

pub returns-in_err-next-clause-ends : goal.returns-in_err-next-clause-ends
returns-in_err-next-clause-ends g c =
    let p = err_from_is_err_and c.from_residual-in_err-next.result c.from_residual-in_err-next.ensures.1 in
    rw (p.1, p.2) (walk_fails g.S.Store c.args.store.now c.rows.store c.next.new.self c.in_err-next.field-0.0 c.rows.invariant.1 c.rows.invariant.4 c.rows.invariant.2
    c.in_err-next.ensures.told c.in_err-next.ensures.err.kept c.in_err-next.ensures.cause c.next.ensures.schema c.next.ensures.quiet)

pub returns-in_default-clause-ok : goal.returns-in_default-clause-ok
returns-in_default-clause-ok g c clean =
    let rows = (g.S.Store.view c.args.store.now).trees root_tree in
    let now = g.S.Store.view c.rows.store in
    let new = g.S.Store.view c.next.new.self in
    let mid : IsClean now = omega (arith, c.next.ensures.quiet.clean) in
    let step = stepped now new 0 c.next.new.row (rw c.if-not-branch.false at (c.in_ok-next.ensures.ok clean)) in
    lists_no rows (left_of new 0) c.rows.names.items c.next.new.row (subst (λ l. ListsTo rows l c.rows.names.items) step (c.rows.invariant.3 mid)) (rw c.in_default.is at c.root_in.ensures)

pub returns-in_err-push-clause-ends : goal.returns-in_err-push-clause-ends
returns-in_err-push-clause-ends g c =
    let p = err_from_is_err_and c.from_residual-in_err-push.result c.from_residual-in_err-push.ensures.1 in
    rw (p.1, p.2) (walk_stops g.S.Store c.args.store.now c.next.new.self (search rules) (search rules) (search rules))

pub rows-preserved : goal.rows-preserved
rows-preserved g c = (
  search rules,
  search rules,
  search rules,
  λ clean.
      let rows = (g.S.Store.view c.args.store.now).trees root_tree in
      let now = g.S.Store.view c.rows.store in
      let new = g.S.Store.view c.next.new.self in
      let mid : IsClean now = omega (arith, c.next.ensures.quiet.clean) in
      let step = stepped now new 0 c.next.new.row (rw c.if-not-branch.false at (c.in_ok-next.ensures.ok clean)) in
      subst (ListsTo rows (left_of new 0)) (sym c.in_ok-push.ensures.items)
      (lists_more rows (left_of new 0) c.rows.names.items c.next.new.row c.in-Some.name (subst (λ l. ListsTo rows l c.rows.names.items) step (c.rows.invariant.3 mid)) (rw c.in-Some.is at c.root_in.ensures)),
  search rules,
  search rules,
)
