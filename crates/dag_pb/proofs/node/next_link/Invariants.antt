use Rattle.std.proofs.Common.{◌≤◌, length}
use Rattle.dag_pb.proofs.Reading.{HasSameLinks}
use Rattle.dag_pb.proofs.node.next_link.Given as goal

abbrev pub invariant-loop-field : goal.invariant-loop-field
invariant-loop-field l = record { same : HasSameLinks l.fields l.rest; fits : length l.rest ≤ length l.fields }

abbrev pub decreases-loop-field : goal.decreases-loop-field
decreases-loop-field l = length l.rest
