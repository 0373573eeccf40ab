use Rattle.std.proofs.Common.{length}
use Rattle.dag_pb_model.proofs.NodeFilling.{Filling}
use Rattle.dag_pb_model.proofs.fill_node.fill_links.Given as goal

abbrev pub invariant-loop-rest : goal.invariant-loop-rest
invariant-loop-rest l = Filling l.links l.rest l.fn.out l.out l.at

abbrev pub decreases-loop-rest : goal.decreases-loop-rest
decreases-loop-rest l = length l.rest
