use Rattle.dag_pb_model.proofs.Walking.{Walked}
use Rattle.dag_pb_model.proofs.measure_links.measure_links.Given as goal

abbrev pub invariant-loop-left : goal.invariant-loop-left
invariant-loop-left l = Walked l.links l.count l.left l.rest l.size l.sorted l.last

abbrev pub decreases-loop-left : goal.decreases-loop-left
decreases-loop-left l = l.left
