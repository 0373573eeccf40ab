use Rattle.std.proofs.Common.{rules, w32, ℤ, ap, ◌∙◌, arith}
use Rattle.std.proofs.lemmas.Int.{to_z-of_z}
use Rattle.abi_calls.proofs.CompactTokens.{compact_decoded}
use Rattle.abi_calls.proofs.compact.put_compact_tape.Goals as goal

pub returns-clause-answer : goal.returns-clause-answer
returns-clause-answer c =
    ap (λ (code : ℤ). (code, c.put_entries.new.needed, c.put_entries.new.tape)) (to_z-of_z w32 c.put_entries.result (search rules)) ∙ c.put_entries.ensures.answer
    ∙ compact_decoded c.args.bytes.now c.args.tape.now (λ i. (c.type_inv.bytes i).fits) (omega (arith, c.if-bytes-ge-TOO_MANY.false))
