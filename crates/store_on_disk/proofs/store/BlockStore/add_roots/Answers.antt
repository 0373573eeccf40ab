use Rattle.std.proofs.Common.{subst, ◌∙◌, arith}
use Rattle.std.proofs.lemmas.Result.{err_from_is_err_and}
use Rattle.store_on_disk.specs.Roots.{AreRootsAdded}
use Rattle.store_on_disk.proofs.Adding.{quiet_then}
use Rattle.store_on_disk.proofs.ManyRoots.{roots_none, roots_next, known_since, all_taken, unlisted, roots_refused}
use Rattle.store_on_disk.proofs.store.BlockStore.add_roots.Goals as goal

pub loop-name-init : goal.loop-name-init
loop-name-init g c = (
  c.known_roots.ensures.reads.quiet,
  λ clean. roots_none (g.S.Store.view c.args.self.now) (g.S.Store.view c.known_roots.new.self) (c.in_ok-known.ensures.reads.same clean) c.in_ok-known.ensures.schema,
  c.in_ok-known.ensures.schema.shape,
  λ clean. known_since (g.S.Store.view c.args.self.now) (g.S.Store.view c.known_roots.new.self) c.in_ok-known.known (c.in_ok-known.ensures.reads.same clean) (c.in_ok-known.ensures.ok clean),
)

pub loop-name-preserved : goal.loop-name-preserved
loop-name-preserved g c =
    let h = c.loop-name.invariant in (
      quiet_then g.S.Store c.args.self.now c.loop-name.self c.add_unknown.new.self h.0 c.add_unknown.ensures.quiet,
      λ clean. roots_next (g.S.Store.view c.args.self.now) (g.S.Store.view c.loop-name.self) (g.S.Store.view c.add_unknown.new.self) c.args.names.now c.loop-name.name-index c.name-item.result c.loop-name-test.true c.name-item.is
          (h.1 (omega (arith, c.add_unknown.ensures.quiet.clean))) (c.in_ok-add_unknown.ensures.ok clean),
      c.in_ok-add_unknown.ensures.shape ∙ h.2,
      c.in_ok-add_unknown.ensures.known,
    )

pub returns-in_err-add_unknown-clause-refused : goal.returns-in_err-add_unknown-clause-refused
returns-in_err-add_unknown-clause-refused g c =
    let p = err_from_is_err_and c.from_residual-in_err-add_unknown.result c.from_residual-in_err-add_unknown.ensures.1 in
    let h = c.loop-name.invariant in
    rw (p.1, p.2) (roots_refused g.S.Store c.args.names.now c.loop-name.name-index c.name-item.result c.args.self.now c.loop-name.self c.add_unknown.new.self c.loop-name-test.true c.name-item.is h.1 h.0 c.add_unknown.ensures.quiet
    c.in_err-add_unknown.field-0.0 c.in_err-add_unknown.ensures.refused)

pub returns-in_err-add_unknown-clause-quiet : goal.returns-in_err-add_unknown-clause-quiet
returns-in_err-add_unknown-clause-quiet g c = quiet_then g.S.Store c.args.self.now c.loop-name.self c.add_unknown.new.self c.loop-name.invariant.0 c.add_unknown.ensures.quiet

pub returns-in_err-known-clause-refused : goal.returns-in_err-known-clause-refused
returns-in_err-known-clause-refused g c =
    let p = err_from_is_err_and c.from_residual.result c.from_residual.ensures.1 in
    rw (p.1, p.2) (unlisted g.S.Store c.args.names.now c.args.self.now c.known_roots.new.self c.in_err-known.field-0.0 c.in_err-known.ensures.refused)

pub returns-clause-ok : goal.returns-clause-ok
returns-clause-ok g c clean =
    subst (AreRootsAdded (g.S.Store.view c.args.self.now) (g.S.Store.view c.loop-name.self)) (all_taken c.args.names.now c.loop-name.name-index (omega arith) (omega arith)) (c.loop-name.invariant.1 clean)
