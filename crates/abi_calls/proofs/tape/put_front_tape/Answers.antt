use Rattle.std.proofs.Common.{rules, w32, length, length-take, ap, ◌∙◌, arith}
use Rattle.std.proofs.lemmas.Int.{to_z-of_z}
use Rattle.abi_calls.specs.Codes.{kind_code}
use Rattle.abi_calls.proofs.Decoding.{block_tokens, refused_tokens}
use Rattle.abi_calls.proofs.Placing.{placed_within}
use Rattle.abi_calls.proofs.tape.put_front_tape.Goals as goal

pub slice_bounds-put_whole-end : goal.slice_bounds-put_whole-end
slice_bounds-put_whole-end c = omega (arith, length-take c.in-Err.refused.place c.args.bytes.now, placed_within c.args.bytes.now c.in-Err.refused c.in-Err.ensures.decoded)

pub returns-in-Ok : goal.returns-in-Ok
returns-in-Ok c =
    let k = c.in-Ok.ensures.kind in
    let code = to_z-of_z w32 c.kind_code.result (search rules) ∙ c.kind_code.ensures ∙ ap kind_code k.2 in
    block_tokens c.args.bytes.now k.0 c.args.tape.now c.put_whole.new.tape c.put_whole.result _ _ k.1 code (λ i. length c.args.bytes.now) c.put_whole.ensures.few (c.put_whole.ensures.tokens k.0 k.1.0)

pub returns-in-Err : goal.returns-in-Err
returns-in-Err c =
    let code = to_z-of_z w32 c.refusal_code.result (search rules) ∙ c.refusal_code.ensures in
    refused_tokens c.args.bytes.now c.in-Err.refused c.args.tape.now c.put_whole-in-Err.new.tape c.put_whole-in-Err.result _ c.in-Err.ensures.decoded code c.put_whole-in-Err.ensures.few c.put_whole-in-Err.ensures.stands
