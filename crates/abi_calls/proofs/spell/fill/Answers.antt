use Rattle.std.proofs.Common.{arith, drop_of_length-le}
use Rattle.abi_calls.proofs.Spelling.{none_put, has_room, one_put, all_put, next_token}
use Rattle.abi_calls.proofs.spell.fill.Goals as goal

pub loop-token-init : goal.loop-token-init
loop-token-init c = none_put c.args.bytes.now c.args.tape.now c.args.out.now c.requires

pub put_told-at-requires : goal.put_told-at-requires
put_told-at-requires c = has_room c.args.bytes.now c.args.tape.now _ _ _ c.args.out.now _ _ (next_token c.args.tape.now c.loop-token.token-index _ (omega arith)) c.loop-token.invariant

pub loop-token-preserved : goal.loop-token-preserved
loop-token-preserved c =
    one_put c.args.bytes.now c.args.tape.now _ _ _ c.args.out.now _ _ _ _ (next_token c.args.tape.now c.loop-token.token-index _ (omega arith)) c.put_told-at.ensures c.loop-token.invariant

pub returns : goal.returns
returns c = all_put c.args.bytes.now c.args.tape.now _ c.args.out.now _ _ (drop_of_length-le c.args.tape.now (omega arith)) c.loop-token.invariant
