use Rattle.std.proofs.Common.{arith, subst, take}
use Rattle.std.proofs.lemmas.Result.{err_from_is_err_and}
use Rattle.sqlite_trees.specs.View.{IsClean}
use Rattle.store_on_disk.specs.Stored.{ListsName}
use Rattle.store_on_disk.proofs.Adding.{quiet_itself, quiet_then}
use Rattle.store_on_disk.proofs.Rooting.{on_ok}
use Rattle.store_on_disk.proofs.Sweeping.{fails_swept}
use Rattle.program_dagstore.specs.Changes.{Changes, ListsOthers, Splits}
use Rattle.program_dagstore.proofs.Removing.{whole, fresh, splits_none, splits_next, counts_up, valid_next, none_removed, removes_next, listed_before}
use Rattle.program_dagstore.proofs.change.take_each.Goals as goal

pub loop-name-init : goal.loop-name-init
loop-name-init g c = (
  quiet_itself g.S.Store c.args.store.now,
  λ clean. none_removed (g.S.Store.view c.args.store.now),
  λ clean. splits_none (ListsName (g.S.Store.view c.args.store.now)) c.new-taken.result c.new-taken.ensures.count c.new-taken.ensures.others,
  λ d m. absurd m,
  omega (arith, c.new-taken.ensures.count),
)

pub loop-name-preserved : goal.loop-name-preserved
loop-name-preserved g c =
    let h = c.loop-name.invariant in
    let old = g.S.Store.view c.args.store.now in
    let mid = g.S.Store.view c.loop-name.store in
    let new = g.S.Store.view c.remove.new.self in
    let names = c.args.names.now in
    let i = c.loop-name.name-index in
    let name = c.name-item.result in
    let within = c.loop-name-test.true in
    let is = c.name-item.is in
    let noted = on_ok c.note.result _ c.if-is_err.ensures.value c.note.ensures.notes in (
      quiet_then g.S.Store c.args.store.now c.loop-name.store c.remove.new.self h.0 c.remove.ensures.quiet,
      λ clean. removes_next old mid new names i name c.in_ok-was_there.was_there within is (h.1 (omega (arith, c.remove.ensures.quiet.clean))) (c.in_ok-was_there.ensures.ok clean),
      λ clean.
          let was : IsClean mid = omega (arith, c.remove.ensures.quiet.clean) in
          splits_next (ListsName old) names i name c.in_ok-was_there.was_there c.loop-name.taken c.note.new.self within is
          (listed_before old mid new (take i names) name c.in_ok-was_there.was_there (h.1 was) h.3 c.note.ensures.valid (fresh names i name c.requires within is) (c.in_ok-was_there.ensures.ok clean)) noted (h.2 was),
      valid_next names i name within is c.note.ensures.valid h.3,
      counts_up name c.in_ok-was_there.was_there c.loop-name.taken c.note.new.self i noted h.4,
    )

pub returns-clause-ok : goal.returns-clause-ok
returns-clause-ok g c clean = subst (λ ns. Changes (ListsOthers ns) (g.S.Store.view c.args.store.now) (g.S.Store.view c.loop-name.store)) (whole c.args.names.now c.loop-name.name-index (omega arith) (omega arith)) (c.loop-name.invariant.1 clean)

pub returns-clause-splits : goal.returns-clause-splits
returns-clause-splits g c clean = subst (λ ns. Splits (ListsName (g.S.Store.view c.args.store.now)) ns c.loop-name.taken) (whole c.args.names.now c.loop-name.name-index (omega arith) (omega arith)) (c.loop-name.invariant.2 clean)

pub returns-in_err-was_there-clause-refused : goal.returns-in_err-was_there-clause-refused
returns-in_err-was_there-clause-refused g c =
    let p = err_from_is_err_and c.from_residual.result c.from_residual.ensures.1 in
    rw (p.1, p.2) (fails_swept g.S.Store c.args.store.now c.loop-name.store c.remove.new.self c.in_err-was_there.field-0.0 c.loop-name.invariant.0 (λ clean. omega (arith, c.remove.ensures.quiet.clean))
    (λ clean. let w = c.loop-name.invariant.1 clean in (w.committed, w.is_open, w.broken)) c.in_err-was_there.ensures.refused)
