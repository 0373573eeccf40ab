use Rattle.std.proofs.Common.{arith, subst}
use Rattle.std.proofs.lemmas.Result.{err_from_is_err_and}
use Rattle.sqlite_trees.specs.View.{IsClean}
use Rattle.store_on_disk.proofs.Adding.{quiet_itself, quiet_then}
use Rattle.store_on_disk.proofs.Rooting.{on_ok}
use Rattle.store_on_disk.proofs.Sweeping.{fails_swept}
use Rattle.ipld_links.specs.Sets.{Among}
use Rattle.program_dagstore.specs.Changes.{Changes}
use Rattle.program_dagstore.specs.Roots.{DropsRoots, SplitsRoots}
use Rattle.program_dagstore.proofs.Removing.{whole, splits_none, counts_up}
use Rattle.program_dagstore.proofs.Rooting.{none_dropped, drops_next, roots_split}
use Rattle.program_dagstore.proofs.roots.drop_each.Goals as goal

pub loop-name-init : goal.loop-name-init
loop-name-init g c = (
  quiet_itself g.S.Store c.args.store.now,
  λ clean. none_dropped (g.S.Store.view c.args.store.now),
  λ clean roots has. splits_none (λ x. Among x roots) c.new-taken.result c.new-taken.ensures.count c.new-taken.ensures.others,
  omega (arith, c.new-taken.ensures.count),
)

pub loop-name-preserved : goal.loop-name-preserved
loop-name-preserved g c =
    let h = c.loop-name.invariant in
    let old = g.S.Store.view c.args.store.now in
    let mid = g.S.Store.view c.loop-name.store in
    let new = g.S.Store.view c.remove_root.new.self in
    let names = c.args.names.now in
    let i = c.loop-name.name-index in
    let name = c.name-item.result in
    let within = c.loop-name-test.true in
    let is = c.name-item.is in
    let noted = on_ok c.note.result _ c.if-is_err.ensures.value c.note.ensures.notes in (
      quiet_then g.S.Store c.args.store.now c.loop-name.store c.remove_root.new.self h.0 c.remove_root.ensures.quiet,
      λ clean. drops_next old mid new names i name c.in_ok-was_there.was_there within is (h.1 (omega (arith, c.remove_root.ensures.quiet.clean))) (c.in_ok-was_there.ensures.ok clean),
      λ clean.
          let was : IsClean mid = omega (arith, c.remove_root.ensures.quiet.clean) in
          roots_split old mid new names i name c.in_ok-was_there.was_there c.loop-name.taken c.note.new.self within is c.requires (h.1 was) (c.in_ok-was_there.ensures.ok clean) noted (h.2 was),
      counts_up name c.in_ok-was_there.was_there c.loop-name.taken c.note.new.self i noted h.3,
    )

pub returns-clause-ok : goal.returns-clause-ok
returns-clause-ok g c clean = subst (λ ns. Changes (DropsRoots ns) (g.S.Store.view c.args.store.now) (g.S.Store.view c.loop-name.store)) (whole c.args.names.now c.loop-name.name-index (omega arith) (omega arith)) (c.loop-name.invariant.1 clean)

pub returns-clause-splits : goal.returns-clause-splits
returns-clause-splits g c clean = subst (λ ns. SplitsRoots (g.S.Store.view c.args.store.now) ns c.loop-name.taken) (whole c.args.names.now c.loop-name.name-index (omega arith) (omega arith)) (c.loop-name.invariant.2 clean)

pub returns-in_err-was_there-clause-refused : goal.returns-in_err-was_there-clause-refused
returns-in_err-was_there-clause-refused g c =
    let p = err_from_is_err_and c.from_residual.result c.from_residual.ensures.1 in
    rw (p.1, p.2) (fails_swept g.S.Store c.args.store.now c.loop-name.store c.remove_root.new.self c.in_err-was_there.field-0.0 c.loop-name.invariant.0 (λ clean. omega (arith, c.remove_root.ensures.quiet.clean))
    (λ clean. let w = c.loop-name.invariant.1 clean in (w.committed, w.is_open, w.broken)) c.in_err-was_there.ensures.refused)
