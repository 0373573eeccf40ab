use Rattle.dag_pb.proofs.Varints.{IsRead}
use Rattle.dag_pb.proofs.varint.split_varint.Given as goal

abbrev pub invariant-loop-place : goal.invariant-loop-place
invariant-loop-place l = IsRead l.bytes l.place l.number l.unit
