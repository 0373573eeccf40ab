use Rattle.std.proofs.Common.{length}
use Rattle.dag_pb_model.proofs.Filling.{Placing}
use Rattle.dag_pb_model.proofs.fill.put_links.Given as goal

abbrev pub invariant-loop-link : goal.invariant-loop-link
invariant-loop-link l = Placing l.fields l.rest l.fn.out l.out l.at l.place

abbrev pub decreases-loop-link : goal.decreases-loop-link
decreases-loop-link l = length l.rest
