use Rattle.std.proofs.Common.{is_some}
use Rattle.dagcbor_heads.proofs.Writing.{next_part, exit_part}
use Rattle.dagcbor_write.proofs.Pushing.{begin_entries, at_entry, no_entry}
use Rattle.dagcbor_write.proofs.serializer.Serializer.push_entries.Goals as goal

pub returns-in_err-push_head_if_due-clause-written : goal.returns-in_err-push_head_if_due-clause-written
returns-in_err-push_head_if_due-clause-written g c = exit_part (begin_entries (is_some c.args.state.now.announced) c.args.state.now.entries _) _ _ _ c.from_residual.ensures.1 (rw (c.announced.ensures, c.len.ensures) at c.in_err-push_head_if_due.ensures.written)

pub loop-i-init : goal.loop-i-init
loop-i-init g c = next_part (begin_entries (is_some c.args.state.now.announced) c.args.state.now.entries _) _ (rw (c.announced.ensures, c.len.ensures) at c.in_ok-push_head_if_due.ensures.written)

pub returns-in_err-push-clause-written : goal.returns-in_err-push-clause-written
returns-in_err-push-clause-written g c =
    let w = at_entry _ _ _ (rw c.len-i-end.ensures at c.loop-i-test.true) c.entry.ensures _ _ _ c.loop-i.invariant in
    exit_part w _ _ _ c.from_residual-in_err-push.ensures.1 c.in_err-push.ensures.written

pub loop-i-preserved : goal.loop-i-preserved
loop-i-preserved g c =
    let w = at_entry _ _ _ (rw c.len-i-end.ensures at c.loop-i-test.true) c.entry.ensures _ _ _ c.loop-i.invariant in
    next_part w _ c.in_ok-push.ensures.written

pub returns-clause-written : goal.returns-clause-written
returns-clause-written g c = no_entry _ _ (rw c.len-i-end.ensures at c.loop-i-test.false) _ _ _ c.loop-i.invariant
