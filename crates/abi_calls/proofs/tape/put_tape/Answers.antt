use Rattle.std.proofs.Common.{rules, w32, ℤ, ap, ◌∙◌}
use Rattle.std.proofs.lemmas.Int.{to_z-of_z}
use Rattle.dagcbor_decode.specs.Decode.{decode}
use Rattle.abi_calls.proofs.Decoding.{plain_taped}
use Rattle.abi_calls.proofs.tape.put_tape.Goals as goal

pub returns-clause-answer : goal.returns-clause-answer
returns-clause-answer c =
    ap (λ (code : ℤ). (code, c.put_entries.new.needed, c.put_entries.new.tape)) (to_z-of_z w32 c.put_entries.result (search rules)) ∙ c.put_entries.ensures.answer
    ∙ plain_taped (decode c.args.bytes.now) c.args.tape.now
