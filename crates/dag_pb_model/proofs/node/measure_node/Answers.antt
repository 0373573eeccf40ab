use Rattle.std.proofs.Common.{option_map, arith, ap, ◌+◌}
use Rattle.dag_pb_model.proofs.Opening.{no_front_no_node, no_links_no_node}
use Rattle.dag_pb_model.proofs.Written.{node_fits, node_measured}
use Rattle.dag_pb_model.proofs.node.measure_node.Goals as goal

pub returns-in_err-data : goal.returns-in_err-data
returns-in_err-data c = rw c.from_residual.ensures (no_front_no_node c.args.model.now c.in_err-data.ensures)

pub returns-in_err-fields : goal.returns-in_err-fields
returns-in_err-fields c = rw c.from_residual-in_err-fields.ensures (no_links_no_node c.args.model.now (option_map (λ b. b.now) c.in_ok-data.«data») c.in_ok-data.count c.in_ok-data.links.now c.in_ok-data.ensures c.in_err-fields.ensures)

pub overflow_add-size : goal.overflow_add-size
overflow_add-size c = omega (arith, node_fits c.args.model.now (option_map (λ b. b.now) c.in_ok-data.«data») c.in_ok-data.count c.in_ok-data.links.now c.in_ok-data.ensures c.data_length.ensures.fits, c.data_length.ensures.length, c.in_ok-fields.ensures.few)

pub returns : goal.returns
returns c = node_measured c.args.model.now (option_map (λ b. b.now) c.in_ok-data.«data») c.in_ok-data.count c.in_ok-data.links.now c.in_ok-fields.fields _ c.in_ok-fields.sorted c.in_ok-data.ensures c.in_ok-fields.ensures c.data_length.ensures.fits (ap (λ n. c.in_ok-fields.fields + n) c.data_length.ensures.length)
