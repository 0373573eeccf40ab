use Rattle.std.proofs.Common.{◌≡◌, arith}
use Rattle.std.proofs.lemmas.Result.{err_from_is_err_and}
use Rattle.sqlite_trees.specs.View.{IsClean}
use Rattle.ipld_links.specs.Sets.{Among}
use Rattle.store_on_disk.proofs.Adding.{quiet_itself, quiet_then}
use Rattle.store_on_disk.proofs.Walking.{same_itself, same_then}
use Rattle.store_on_disk.proofs.Unlisted.{item_among}
use Rattle.store_on_disk.proofs.Marking.{have_none, have_next, have_all, have_same, lacking_after, named_root}
use Rattle.store_on_disk.proofs.store.BlockStore.check_roots.Goals as goal

pub loop-root-init : goal.loop-root-init
loop-root-init g c = (quiet_itself g.S.Store c.args.self.now, λ clean. (same_itself (g.S.Store.view c.args.self.now), have_none (g.S.Store.view c.args.self.now)))

pub loop-root-preserved : goal.loop-root-preserved
loop-root-preserved g c = (
  quiet_then g.S.Store c.args.self.now c.loop-root.self c.check_root.new.self c.loop-root.invariant.0 c.check_root.ensures.reads.quiet,
  λ clean.
      let mid : IsClean (g.S.Store.view c.loop-root.self) = omega (arith, c.check_root.ensures.reads.quiet.clean) in
      let w = c.loop-root.invariant.1 mid in
      let v = g.S.Store.view c.args.self.now in
      let now = g.S.Store.view c.loop-root.self in (
        same_then v now (g.S.Store.view c.check_root.new.self) w.0 (c.in_ok-check_root.ensures.reads.same clean),
        have_next v c.args.roots.now c.loop-root.root-index c.root-item.result c.loop-root-test.true c.root-item.is w.1 (have_same v now c.root-item.result w.0 (c.in_ok-check_root.ensures.ok clean)),
      ),
)

pub returns-in_err-check_root-clause-refused : goal.returns-in_err-check_root-clause-refused
returns-in_err-check_root-clause-refused g c =
    let p = err_from_is_err_and c.from_residual.result c.from_residual.ensures.1 in
    rw (p.1, p.2) (lacking_after g.S.Store (λ n. n ≡ c.root-item.result) (λ n. Among n c.args.roots.now) c.args.self.now c.loop-root.self c.check_root.new.self c.in_err-check_root.field-0.0 c.loop-root.invariant.0 (λ clean. (c.loop-root.invariant.1 clean).0)
    (named_root c.args.roots.now c.root-item.result (item_among c.args.roots.now c.loop-root.root-index c.root-item.result c.loop-root-test.true c.root-item.is)) (λ clean. omega (arith, c.check_root.ensures.reads.quiet.clean)) c.in_err-check_root.ensures.refused)

pub returns-clause-ok : goal.returns-clause-ok
returns-clause-ok g c clean = have_all (g.S.Store.view c.args.self.now) c.args.roots.now c.loop-root.root-index (omega arith) (omega arith) (c.loop-root.invariant.1 clean).1
