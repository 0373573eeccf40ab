use Rattle.std.proofs.Common.{arith}
use Rattle.dag_pb.proofs.Rows.{left_fits}
use Rattle.dag_pb.proofs.node.check_node.Goals as goal

pub returns-in-Some : goal.returns-in-Some
returns-in-Some c = (c.in-Some.ensures.0, (c.in-Some.stop.left, omega (arith, left_fits c.args.block.now c.in-Some.stop.cause c.in-Some.stop.left c.in-Some.ensures.1), c.in-Some.ensures.1))
