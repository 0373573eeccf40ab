use Rattle.std.proofs.Common.{arith}
use Rattle.dagcbor_heads.proofs.Writing.{next_part, exit_part, last_part}
use Rattle.dagcbor_write.proofs.Parts.{begin_counted}
use Rattle.dagcbor_write.proofs.serializer.push_counted.Goals as goal

pub returns-in_err-push_head-clause-written : goal.returns-in_err-push_head-clause-written
returns-in_err-push_head-clause-written g c =
    exit_part (begin_counted _ c.args.payload.now _ (omega arith)) _ _ _ c.from_residual.ensures.1 c.in_err-push_head.ensures.written

pub returns-clause-written : goal.returns-clause-written
returns-clause-written g c =
    last_part (next_part (begin_counted _ c.args.payload.now _ (omega arith)) _ c.in_ok-push_head.ensures.written) _ _ c.push.ensures.written
