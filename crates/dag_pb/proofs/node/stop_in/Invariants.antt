use Rattle.std.proofs.Common.{length}
use Rattle.dag_pb.proofs.Reading.{IsReadTo}
use Rattle.dag_pb.proofs.node.stop_in.Given as goal

abbrev pub invariant-loop-rest : goal.invariant-loop-rest
invariant-loop-rest l = IsReadTo l.block l.order l.rest

abbrev pub decreases-loop-rest : goal.decreases-loop-rest
decreases-loop-rest l = length l.rest
