use Rattle.std.proofs.Common.{arith}
use Rattle.dag_pb_model.proofs.Measuring.{no_text_measured, all_measured}
use Rattle.dag_pb_model.proofs.measure.measure_fields.Goals as goal

pub returns-in_err-found : goal.returns-in_err-found
returns-in_err-found c =
    let g = c.loop-field.invariant in
    let found = c.in-Some.ensures.field g.left g.begins in
    rw c.from_residual.ensures (no_text_measured c.args.node.now c.loop-field.rest.now _ found.0 c.loop-field.found g found.2 c.in_err-found.ensures)

pub returns : goal.returns
returns c =
    let g = c.loop-field.invariant in
    all_measured c.args.node.now c.loop-field.rest.now c.loop-field.found g (c.in_default.ensures.field g.left g.begins) (omega arith)
