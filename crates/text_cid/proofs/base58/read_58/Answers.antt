use Rattle.std.proofs.Common.{ap, reverse, ◌∙◌}
use Rattle.text_cid.proofs.Numbers58.{read_whole, not_read, zero_first}
use Rattle.text_cid.proofs.base58.read_58.Goals as goal

pub returns-then-begins_with_zero : goal.returns-then-begins_with_zero
returns-then-begins_with_zero c = zero_first c.args.text.now (rw c.if-begins_with_zero.true at c.begins_with_zero.ensures)

pub returns-in-Ok : goal.returns-in-Ok
returns-in-Ok c =
    let is = c.in-Ok.ensures in
    read_whole c.args.text.now c.in-Ok.digits.items c.reversed.result.items is.2.0 is.2.1 is.2.2 is.2.3 (rw c.if-begins_with_zero.false at c.begins_with_zero.ensures) (c.reversed.ensures ∙ ap reverse c.deref.ensures.0)

pub returns-in-Err : goal.returns-in-Err
returns-in-Err c = not_read c.args.text.now c.in-Err.error c.in-Err.ensures.0 c.in-Err.ensures.1 (rw c.if-begins_with_zero.false at c.begins_with_zero.ensures)
