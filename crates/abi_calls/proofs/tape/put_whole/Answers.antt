use Rattle.std.proofs.Common.{arith}
use Rattle.abi_calls.proofs.Standing.{with_room, same_count}
use Rattle.abi_calls.proofs.tape.put_whole.Goals as goal
use Rattle.abi_calls.proofs.tape.put_whole.Goals.{then-tape-bytes+else-needed-tape, else-tape-bytes}

pub returns-clause-stands : goal.returns-clause-stands
returns-clause-stands g c = with_room (g.T.TapeEntry.made c.args.bytes.now) c.args.bytes.now c.args.tape.now c.put_tokens.new.tape c.put_tokens.result (elim c.if-tape-bytes.branch [
  | then-tape-bytes+else-needed-tape w ↦ (let same = same_count _ _ _ _ _ _ _ _ _ w.put_tokens-needed.ensures.stands c.put_tokens.ensures.stands in omega (arith, same, w.if-needed-tape.false))
  | else-tape-bytes w ↦ omega (arith, c.put_tokens.ensures.few, w.if-tape-bytes.false)
]) c.put_tokens.ensures.stands
