use Rattle.std.proofs.Common.{rules, arith}
use Rattle.std.proofs.lemmas.Grind.{common_steps}
use Rattle.dagcbor_heads.proofs.Sending.{Sent_more}
use Rattle.dagcbor_heads.proofs.io_write.push_all.Goals as goal

pub loop-rest-preserved : goal.loop-rest-preserved
loop-rest-preserved g c = record { sent = Sent_more c.loop-rest.invariant.sent _ _ _ (grind (arith, common_steps)) c.in-Ok.ensures.written; faults = search rules }
