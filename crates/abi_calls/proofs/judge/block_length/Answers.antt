use Rattle.std.proofs.Common.{refl, arith, drop_of_length-le}
use Rattle.abi_calls.proofs.JudgedTapes.{whole_told}
use Rattle.abi_calls.proofs.judge.block_length.Goals as goal

pub overflow_sub-result : goal.overflow_sub-result
overflow_sub-result c = (whole_told c.args.bytes.now c.args.tape.now _ c.in_ok-next.next c.args.most c.after_item.new.room refl (drop_of_length-le c.args.tape.now (omega arith)) c.in_ok-next.ensures).0

pub returns : goal.returns
returns c =
    let k = whole_told c.args.bytes.now c.args.tape.now _ c.in_ok-next.next c.args.most c.after_item.new.room refl (drop_of_length-le c.args.tape.now (omega arith)) c.in_ok-next.ensures in
    (omega arith, k.1 _ (omega (arith, k.0)))
