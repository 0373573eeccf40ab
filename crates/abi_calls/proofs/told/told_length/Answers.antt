use Rattle.std.proofs.Common.{arith, drop_of_length-le}
use Rattle.abi_calls.proofs.Spelling.{none_counted, one_counted, one_is_none, all_counted, next_token}
use Rattle.abi_calls.proofs.told.told_length.Goals as goal

pub loop-token-init : goal.loop-token-init
loop-token-init c = record { fits = omega arith; counted = none_counted c.args.bytes.now c.args.tape.now }

pub returns-in_err-count : goal.returns-in_err-count
returns-in_err-count c = rw c.from_residual.ensures (one_is_none c.args.bytes.now c.args.tape.now _ _ _ _ (next_token c.args.tape.now c.loop-token.token-index _ (omega arith)) c.in_err-count.ensures c.loop-token.invariant.counted)

pub loop-token-preserved : goal.loop-token-preserved
loop-token-preserved c =
    let k = c.in_ok-count.ensures in
    record {
      fits = omega (arith, c.loop-token.invariant.fits);
      counted = one_counted c.args.bytes.now c.args.tape.now _ _ _ k.0 _ _ (next_token c.args.tape.now c.loop-token.token-index _ (omega arith)) k.1 (omega (arith, k.2)) c.loop-token.invariant.counted;
    }

pub returns : goal.returns
returns c = all_counted c.args.bytes.now c.args.tape.now _ _ _ (drop_of_length-le c.args.tape.now (omega arith)) c.loop-token.invariant.counted (omega arith)
