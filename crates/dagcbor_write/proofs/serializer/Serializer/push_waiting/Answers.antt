use Rattle.dagcbor_heads.proofs.Writing.{Writes_then, Writes_exit}
use Rattle.dagcbor_write.proofs.serializer.Serializer.push_waiting.Goals as goal

pub returns-in_err-push_head-clause-written : goal.returns-in_err-push_head-clause-written
returns-in_err-push_head-clause-written g c = Writes_exit _ _ _ _ _ _ c.from_residual.ensures.1 (rw c.count.ensures at c.in_err-push_head.ensures.written)

pub returns-clause-written : goal.returns-clause-written
returns-clause-written g c = Writes_then _ _ _ _ _ _ (rw c.count.ensures at c.in_ok-push_head.ensures.written) (rw c.bytes.ensures at c.push.ensures.written)
