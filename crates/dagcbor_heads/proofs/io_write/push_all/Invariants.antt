use Rattle.std.proofs.Common.{◌≡◌, length}
use Rattle.dagcbor_heads.proofs.Sending.{Sent}
use Rattle.dagcbor_heads.proofs.io_write.push_all.Given as goal

abbrev pub invariant-loop-rest : goal.invariant-loop-rest
invariant-loop-rest g l = record {
  sent : Sent l.bytes l.rest (g.W.Write.contents l.initial.device) (g.W.Write.contents l.device);
  faults : l.faults.count ≡ l.initial.faults.count;
}

abbrev pub decreases-loop-rest : goal.decreases-loop-rest
decreases-loop-rest g l = length l.rest
