use Rattle.std.proofs.Common.{arith, ◌+◌, ◌≤◌, subst, sym, Some}
use Rattle.std.proofs.lemmas.Result.{err_from_is_err_and}
use Rattle.sqlite_trees.specs.View.{IsClean}
use Rattle.store_on_disk.proofs.Adding.{quiet_itself, quiet_then}
use Rattle.store_on_disk.proofs.Sweeping.{SweptTo, swept_none, one_at_most, swept_next, swept_all, fails_swept}
use Rattle.store_on_disk.proofs.store.BlockStore.sweep.Goals as goal

pub loop-count-init : goal.loop-count-init
loop-count-init g c = (quiet_itself g.S.Store c.args.self.now, λ clean. swept_none (g.S.Store.view c.args.self.now) c.args.kept.now, omega arith)

pub loop-count-preserved : goal.loop-count-preserved
loop-count-preserved g c =
    let one : c.from-taken.result ≤ 1 = subst (λ n. n ≤ 1) (sym c.from-taken.ensures) (one_at_most c.in-Some.next.1) in (
      quiet_then g.S.Store c.args.self.now c.loop-count.self c.sweep_next.new.self c.loop-count.invariant.0 c.sweep_next.ensures.quiet,
      λ clean.
          let mid : IsClean (g.S.Store.view c.loop-count.self) = omega (arith, c.sweep_next.ensures.quiet.clean) in
          let v = g.S.Store.view c.args.self.now in
          let new = g.S.Store.view c.sweep_next.new.self in
          let k = (rw c.in-Some.is at c.in_ok-next.ensures.ok) clean in
          subst (λ n. SweptTo v new c.args.kept.now (Some c.in-Some.next.0) (c.loop-count.taken + n)) (sym c.from-taken.ensures)
          (swept_next v (g.S.Store.view c.loop-count.self) new c.args.kept.now c.loop-count.last c.loop-count.taken c.in-Some.next (c.loop-count.invariant.1 mid) k),
      omega (arith, one, c.loop-count.invariant.2),
    )

pub returns-in_err-next-clause-refused : goal.returns-in_err-next-clause-refused
returns-in_err-next-clause-refused g c =
    let p = err_from_is_err_and c.from_residual.result c.from_residual.ensures.1 in
    rw (p.1, p.2) (fails_swept g.S.Store c.args.self.now c.loop-count.self c.sweep_next.new.self c.in_err-next.field-0.0 c.loop-count.invariant.0 (λ clean. omega (arith, c.sweep_next.ensures.quiet.clean))
    (λ clean. let w = c.loop-count.invariant.1 clean in (w.committed, w.is_open, w.broken)) c.in_err-next.ensures.refused)

pub returns-in_err-next-clause-quiet : goal.returns-in_err-next-clause-quiet
returns-in_err-next-clause-quiet g c = quiet_then g.S.Store c.args.self.now c.loop-count.self c.sweep_next.new.self c.loop-count.invariant.0 c.sweep_next.ensures.quiet

pub overflow_add-taken : goal.overflow_add-taken
overflow_add-taken g c =
    let one : c.from-taken.result ≤ 1 = subst (λ n. n ≤ 1) (sym c.from-taken.ensures) (one_at_most c.in-Some.next.1) in
    omega (arith, one, c.loop-count.invariant.2, c.loop-count-test.true)

pub returns-in-None-clause-ok : goal.returns-in-None-clause-ok
returns-in-None-clause-ok g c clean =
    let mid : IsClean (g.S.Store.view c.loop-count.self) = omega (arith, c.sweep_next.ensures.quiet.clean) in
    let k = (rw c.in-None.is at c.in_ok-next.ensures.ok) clean in
    swept_all (g.S.Store.view c.args.self.now) (g.S.Store.view c.loop-count.self) (g.S.Store.view c.sweep_next.new.self) c.args.kept.now c.loop-count.last c.loop-count.taken (c.loop-count.invariant.1 mid) k.0 k.1

pub returns-in-None-clause-quiet : goal.returns-in-None-clause-quiet
returns-in-None-clause-quiet g c = quiet_then g.S.Store c.args.self.now c.loop-count.self c.sweep_next.new.self c.loop-count.invariant.0 c.sweep_next.ensures.quiet

pub returns-clause-refused : goal.returns-clause-refused
returns-clause-refused g c =
    fails_swept g.S.Store c.args.self.now c.loop-count.self c.give_up.new.self c.give_up.result c.loop-count.invariant.0 (λ clean. omega (arith, c.give_up.ensures.quiet.clean))
    (λ clean. let w = c.loop-count.invariant.1 clean in (w.committed, w.is_open, w.broken)) c.give_up.ensures.refused

pub returns-clause-quiet : goal.returns-clause-quiet
returns-clause-quiet g c = quiet_then g.S.Store c.args.self.now c.loop-count.self c.give_up.new.self c.loop-count.invariant.0 c.give_up.ensures.quiet
