use Rattle.dag_pb.specs.Reads.{field_of}
use Rattle.dag_pb.proofs.Fields.{empty_there, some_there}
use Rattle.dag_pb.proofs.Reading.{one_read, all_read, no_node, no_node_so}
use Rattle.dag_pb.proofs.Rows.{stops_in_row, stops_at_field}
use Rattle.dag_pb.proofs.node.stop_in.Goals as goal

pub returns-in-Err : goal.returns-in-Err
returns-in-Err c = (
  no_node c.args.block.now c.loop-rest.order c.loop-rest.rest.now c.loop-rest.invariant (some_there c.loop-rest.rest.now c.is_empty.result c.is_empty.ensures c.loop-rest-test.true) c.in-Err.ensures.0,
  stops_in_row c.args.block.now c.loop-rest.invariant.before c.loop-rest.rest.now c.in-Err.stop c.loop-rest.invariant.row c.in-Err.ensures.1,
)

pub returns-in_default : goal.returns-in_default
returns-in_default c = (
  no_node_so c.args.block.now c.loop-rest.order c.loop-rest.rest.now c.in-Ok.found.1.now (field_of c.in-Ok.found.0) c.loop-rest.invariant (some_there c.loop-rest.rest.now c.is_empty.result c.is_empty.ensures c.loop-rest-test.true) c.in-Ok.ensures c.in_default.ensures,
  stops_in_row c.args.block.now c.loop-rest.invariant.before c.loop-rest.rest.now c.before-in_default.result c.loop-rest.invariant.row
      (stops_at_field c.loop-rest.rest.now (field_of c.in-Ok.found.0) c.in-Ok.found.1.now c.tag_of.result c.before-in_default.result c.in-Ok.ensures c.tag_of.ensures c.before-in_default.ensures),
)

pub loop-rest-preserved : goal.loop-rest-preserved
loop-rest-preserved c = one_read c.args.block.now c.loop-rest.order c.in-Some.next c.loop-rest.rest.now c.in-Ok.found.1.now (field_of c.in-Ok.found.0) c.loop-rest.invariant c.in-Ok.ensures c.in-Some.ensures

pub returns : goal.returns
returns c = all_read c.args.block.now c.loop-rest.order c.loop-rest.rest.now c.loop-rest.invariant (empty_there c.loop-rest.rest.now c.is_empty.result c.is_empty.ensures c.loop-rest-test.false)
