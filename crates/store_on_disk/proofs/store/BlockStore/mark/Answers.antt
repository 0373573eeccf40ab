use Rattle.std.proofs.Common.{arith, take}
use Rattle.std.proofs.lemmas.Result.{err_from_is_err_and}
use Rattle.sqlite_trees.specs.View.{IsClean}
use Rattle.store_on_disk.proofs.Adding.{quiet_itself, quiet_then}
use Rattle.store_on_disk.proofs.Walking.{same_itself, same_then}
use Rattle.store_on_disk.proofs.Unlisted.{item_among}
use Rattle.store_on_disk.proofs.Marking.{marks_none, marks_next, marks_all, more_same, marked_rooted, stops_after}
use Rattle.store_on_disk.specs.Collecting.{AtMarked, AtRooted}
use Rattle.store_on_disk.proofs.store.BlockStore.mark.Goals as goal

pub loop-root-init : goal.loop-root-init
loop-root-init g c = (
  quiet_itself g.S.Store c.args.self.now,
  λ clean. (same_itself (g.S.Store.view c.args.self.now), marks_none (g.S.Store.view c.args.self.now) c.new-kept.result c.new-kept.ensures.empty),
)

pub loop-root-preserved : goal.loop-root-preserved
loop-root-preserved g c = (
  quiet_then g.S.Store c.args.self.now c.loop-root.self c.mark_from.new.self c.loop-root.invariant.0 c.mark_from.ensures.reads.quiet,
  λ clean.
      let mid : IsClean (g.S.Store.view c.loop-root.self) = omega (arith, c.mark_from.ensures.reads.quiet.clean) in
      let w = c.loop-root.invariant.1 mid in
      let v = g.S.Store.view c.args.self.now in
      let now = g.S.Store.view c.loop-root.self in (
        same_then v now (g.S.Store.view c.mark_from.new.self) w.0 (c.in_ok-mark_from.ensures.reads.same clean),
        marks_next v c.args.roots.now c.loop-root.root-index c.root-item.result c.loop-root.kept c.mark_from.new.kept c.loop-root-test.true c.root-item.is w.1
            (more_same v now c.root-item.result c.loop-root.kept c.mark_from.new.kept w.0.trees (c.in_ok-mark_from.ensures.ok clean)),
      ),
)

pub returns-in_err-mark_from-clause-refused : goal.returns-in_err-mark_from-clause-refused
returns-in_err-mark_from-clause-refused g c =
    let p = err_from_is_err_and c.from_residual.result c.from_residual.ensures.1 in
    rw (p.1, p.2) (stops_after g.S.Store (AtMarked c.root-item.result c.loop-root.kept) (AtRooted c.args.roots.now) c.args.self.now c.loop-root.self c.mark_from.new.self c.in_err-mark_from.field-0.0 c.loop-root.invariant.0 (λ clean. (c.loop-root.invariant.1 clean).0)
    (λ clean. let w = c.loop-root.invariant.1 clean in
    marked_rooted (g.S.Store.view c.args.self.now) (g.S.Store.view c.loop-root.self) c.args.roots.now (take c.loop-root.root-index c.args.roots.now) c.root-item.result c.loop-root.kept (item_among c.args.roots.now c.loop-root.root-index c.root-item.result c.loop-root-test.true c.root-item.is) w.0 w.1)
    (λ clean. omega (arith, c.mark_from.ensures.reads.quiet.clean)) c.in_err-mark_from.ensures.refused)

pub returns-clause-ok : goal.returns-clause-ok
returns-clause-ok g c clean = marks_all (g.S.Store.view c.args.self.now) c.args.roots.now c.loop-root.root-index c.loop-root.kept (omega arith) (omega arith) (c.loop-root.invariant.1 clean).1
