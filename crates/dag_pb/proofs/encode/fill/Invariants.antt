use Rattle.std.proofs.Common.{◌≡◌, ◌++◌, length, drop}
use Rattle.dag_pb.proofs.Placing.{first_links}
use Rattle.dag_pb.proofs.encode.fill.Given as goal

abbrev pub invariant-loop-link : goal.invariant-loop-link
invariant-loop-link l = record {
  place : l.at ≡ length (first_links l.links l.link-index);
  stands : l.out ≡ first_links l.links l.link-index ++ drop (length (first_links l.links l.link-index)) l.fn.out;
}
