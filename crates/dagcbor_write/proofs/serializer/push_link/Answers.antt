use Rattle.std.proofs.Common.{◌+◌, arith}
use Rattle.dagcbor_heads.proofs.Writing.{next_part, exit_part, last_part}
use Rattle.dagcbor_write.proofs.Parts.{begin_link}
use Rattle.dagcbor_write.proofs.serializer.push_link.Goals as goal

pub returns-in_err-push-clause-written : goal.returns-in_err-push-clause-written
returns-in_err-push-clause-written g c =
    let w = begin_link c.args.cid.now.items (c.len.result + 1) (g.W.Write.written c.args.writer.now) (omega arith) (omega arith) in
    exit_part w _ _ _ c.from_residual.ensures.1 c.in_err-push.ensures.written

pub returns-in_err-push_head-clause-written : goal.returns-in_err-push_head-clause-written
returns-in_err-push_head-clause-written g c =
    let w = begin_link c.args.cid.now.items (c.len.result + 1) (g.W.Write.written c.args.writer.now) (omega arith) (omega arith) in
    exit_part (next_part w _ c.in_ok-push.ensures.written) _ _ _ c.from_residual-in_err-push_head.ensures.1 c.in_err-push_head.ensures.written

pub returns-in_err-push-2-clause-written : goal.returns-in_err-push-2-clause-written
returns-in_err-push-2-clause-written g c =
    let w = begin_link c.args.cid.now.items (c.len.result + 1) (g.W.Write.written c.args.writer.now) (omega arith) (omega arith) in
    let w = next_part (next_part w _ c.in_ok-push.ensures.written) _ c.in_ok-push_head.ensures.written in
    exit_part w _ _ _ c.from_residual-in_err-push-2.ensures.1 c.in_err-push-2.ensures.written

pub returns-clause-written : goal.returns-clause-written
returns-clause-written g c =
    let w = begin_link c.args.cid.now.items (c.len.result + 1) (g.W.Write.written c.args.writer.now) (omega arith) (omega arith) in
    let w = next_part (next_part (next_part w _ c.in_ok-push.ensures.written) _ c.in_ok-push_head.ensures.written) _ c.in_ok-push-2.ensures.written in
    last_part w _ _ (rw c.as_slice.ensures.value at c.push-3.ensures.written)
