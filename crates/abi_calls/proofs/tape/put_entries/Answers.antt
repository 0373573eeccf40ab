use Rattle.std.proofs.Common.{rules, w32, map, sym, ap, ◌∙◌}
use Rattle.std.proofs.lemmas.Int.{to_z-of_z}
use Rattle.abi_calls.proofs.Decoding.{made_taped, refused_taped}
use Rattle.abi_calls.specs.Codes.{kind_code}
use Rattle.abi_calls.specs.Tapes.{tape_of}
use Rattle.abi_calls.proofs.tape.put_entries.Goals as goal

pub returns-in-Ok-clause-answer : goal.returns-in-Ok-clause-answer
returns-in-Ok-clause-answer g c =
    let k = c.in-Ok.ensures.kind in
    let code = to_z-of_z w32 c.kind_code.result (search rules) ∙ c.kind_code.ensures ∙ ap kind_code k.2 in
    made_taped (g.T.TapeEntry.made c.args.bytes.now) c.args.bytes.now k.0 c.args.tape.now c.put_whole.new.tape c.put_whole.result _ k.1 code (c.put_whole.ensures.tokens k.0 k.1.0)

pub returns-in-Err-clause-answer : goal.returns-in-Err-clause-answer
returns-in-Err-clause-answer g c =
    let code = to_z-of_z w32 c.refusal_code.result (search rules) ∙ c.refusal_code.ensures in
    refused_taped (λ t. map (g.T.TapeEntry.made c.args.bytes.now) (tape_of t)) c.args.bytes.now c.in-Err.refusal c.args.tape.now _ code (sym c.in-Err.ensures.decoded)
