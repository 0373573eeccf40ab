use Rattle.std.proofs.Common.{◌-◌, sym, arith}
use Rattle.std.proofs.lemmas.Result.{err_from_is_err_and}
use Rattle.atproto_mst.specs.Changes.{change_of}
use Rattle.atproto_events.specs.Pieces.{pieces}
use Rattle.atproto_events.proofs.Undoing.{step_placed, one_more, stops_here}
use Rattle.atproto_events.proofs.undo.undo_all.Goals as goal

pub loop-left-preserved : goal.loop-left-preserved
loop-left-preserved c =
    let d = c.index-done-left.result in
    let one = c.in_ok-undo_change.ensures.undone in
    record {
      bound = omega (arith, c.loop-left.invariant.bound);
      placed = step_placed (change_of d) (pieces c.loop-left.all.items) (pieces c.undo_change.new.all.items) one c.loop-left.invariant.placed;
      undone = one_more c.args.done.now (c.loop-left.left - 1) c.loop-left.left d (pieces c.args.all.now.items) (pieces c.loop-left.all.items) (pieces c.undo_change.new.all.items)
          (omega (arith, c.loop-left-test.true)) (omega (arith, c.loop-left-test.true, c.loop-left.invariant.bound)) (sym c.index-done-left.is) c.loop-left.invariant.undone one;
    }

pub returns-in_err-undo_change-clause-refused : goal.returns-in_err-undo_change-clause-refused
returns-in_err-undo_change-clause-refused c =
    let p = err_from_is_err_and c.from_residual.result c.from_residual.ensures.1 in
    let d = c.index-done-left.result in
    rw (p.1, p.2) (stops_here c.args.done.now (c.loop-left.left - 1) c.loop-left.left d (pieces c.args.all.now.items) (pieces c.loop-left.all.items) c.in_err-undo_change.field-0.0
    (omega (arith, c.loop-left-test.true)) (omega (arith, c.loop-left-test.true, c.loop-left.invariant.bound)) (sym c.index-done-left.is) c.loop-left.invariant.undone
    c.in_err-undo_change.ensures.refused)
