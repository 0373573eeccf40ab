use Rattle.std.proofs.Common.{refl, arith}
use Rattle.abi_calls.proofs.Tapes.{none_told, put_made, one_told, all_told}
use Rattle.abi_calls.proofs.Standing.{none_stood, one_stood, all_stood}
use Rattle.abi_calls.proofs.tape.put_tokens.Goals as goal

pub loop-token-init : goal.loop-token-init
loop-token-init g c = record { fits = omega arith; same_length = refl; stood = none_stood _ _ _ _; told = λ t s. none_told _ c.args.bytes.now t _ s }

pub loop-token-preserved : goal.loop-token-preserved
loop-token-preserved g c =
    let v = c.loop-token.invariant in
    let k = c.in-Some.ensures.tokens in
    record {
      fits = omega (arith, k.0);
      same_length = omega (arith, v.same_length);
      stood = one_stood _ _ _ _ _ c.args.tape.now c.loop-token.tape _ _ _ v.same_length v.stood c.in-Some.ensures.stands (put_made _ _ c.loop-token.tape _ _ c.made.ensures c.put_entry.ensures);
      told = λ t s. one_told _ _ t _ _ c.args.tape.now c.loop-token.tape _ _ _ v.same_length (v.told t s) k.0 k.1 (put_made _ _ c.loop-token.tape _ _ c.made.ensures c.put_entry.ensures);
    }

pub returns-clause-tokens : goal.returns-clause-tokens
returns-clause-tokens g c t s = all_told _ _ t _ _ _ _ c.in_default.ensures.tokens (c.loop-token.invariant.told t s)

pub returns-clause-stands : goal.returns-clause-stands
returns-clause-stands g c = all_stood _ _ _ _ _ _ _ c.in_default.ensures.stands c.loop-token.invariant.stood
