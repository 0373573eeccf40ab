use Rattle.std.proofs.Common.{subst}
use Rattle.std.proofs.lemmas.Result.{err_from_is_err_and}
use Rattle.store_on_disk.specs.Trees.{AtMetBeside}
use Rattle.store_on_disk.specs.Collecting.{CollectsAll, AtMarked}
use Rattle.store_on_disk.proofs.Marking.{marks_more, met_marked, stops_where}
use Rattle.store_on_disk.proofs.store.BlockStore.mark_from.Goals as goal

pub returns-in_err-reached-clause-refused : goal.returns-in_err-reached-clause-refused
returns-in_err-reached-clause-refused g c =
    let p = err_from_is_err_and c.from_residual.result c.from_residual.ensures.1 in
    rw (p.1, p.2) (stops_where g.S.Store (AtMetBeside c.args.root.now c.args.kept.now) (AtMarked c.args.root.now c.args.kept.now) c.args.self.now c.reach_beside.new.self c.in_err-reached.field-0.0 (met_marked c.args.root.now c.args.kept.now) c.in_err-reached.ensures.refused)

pub returns-in-Ok-clause-ok : goal.returns-in-Ok-clause-ok
returns-in-Ok-clause-ok g c clean roots marks =
    marks_more (g.S.Store.view c.args.self.now) c.args.kept.now c.put_all.new.kept c.args.root.now c.in_ok-reached.reached roots (c.in_ok-reached.ensures.ok clean)
    (subst (λ ns. CollectsAll ns c.args.kept.now c.put_all.new.kept) c.deref.ensures.value c.in-Ok.ensures) marks
