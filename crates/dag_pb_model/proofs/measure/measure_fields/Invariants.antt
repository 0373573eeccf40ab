use Rattle.std.proofs.Common.{length}
use Rattle.dag_pb_model.proofs.Measuring.{MeasuredTo}
use Rattle.dag_pb_model.proofs.measure.measure_fields.Given as goal

abbrev pub invariant-loop-field : goal.invariant-loop-field
invariant-loop-field l = MeasuredTo l.node l.rest l.found

abbrev pub decreases-loop-field : goal.decreases-loop-field
decreases-loop-field l = length l.rest
