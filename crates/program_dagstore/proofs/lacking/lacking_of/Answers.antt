use Rattle.std.proofs.Common.{arith}
use Rattle.std.proofs.lemmas.Result.{err_from_is_err_and}
use Rattle.sqlite_trees.specs.View.{IsClean}
use Rattle.store_on_disk.proofs.Adding.{quiet_then}
use Rattle.store_on_disk.proofs.Walking.{same_then}
use Rattle.program_dagstore.proofs.Telling.{fails_from}
use Rattle.program_dagstore.proofs.Leaving.{adds_next}
use Rattle.program_dagstore.proofs.lacking.lacking_of.Goals as goal

pub loop-name-preserved : goal.loop-name-preserved
loop-name-preserved g c = (
  quiet_then g.S.Store c.args.store.now c.loop-name.store c.add_if_lacking.new.store c.loop-name.invariant.0 c.add_if_lacking.ensures.reads.quiet,
  λ clean.
      let mid : IsClean (g.S.Store.view c.loop-name.store) = omega (arith, c.add_if_lacking.ensures.reads.quiet.clean) in
      let w = c.loop-name.invariant.1 mid in
      let v = g.S.Store.view c.args.store.now in
      let now = g.S.Store.view c.loop-name.store in (
        same_then v now (g.S.Store.view c.add_if_lacking.new.store) w.0 (c.in_ok-add_if_lacking.ensures.reads.same clean),
        adds_next v now c.args.names.now c.loop-name.name-index c.name-item.result c.loop-name.lacking.items c.add_if_lacking.new.lacking.items w.0 c.loop-name-test.true c.name-item.is w.1 (c.in_ok-add_if_lacking.ensures.added clean),
      ),
)

pub returns-in_err-add_if_lacking-clause-fault : goal.returns-in_err-add_if_lacking-clause-fault
returns-in_err-add_if_lacking-clause-fault g c =
    let p = err_from_is_err_and c.from_residual.result c.from_residual.ensures.1 in
    rw (p.1, p.2) (fails_from g.S.Store c.args.store.now c.loop-name.store c.add_if_lacking.new.store c.in_err-add_if_lacking.field-0.0 c.loop-name.invariant.0 (λ clean. (c.loop-name.invariant.1 clean).0) c.add_if_lacking.ensures.reads.quiet c.in_err-add_if_lacking.ensures.fault)
