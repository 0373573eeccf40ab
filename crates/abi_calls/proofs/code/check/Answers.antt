use Rattle.std.proofs.Common.{rules, w32, ◌∙◌}
use Rattle.std.proofs.lemmas.Int.{to_z-of_z}
use Rattle.abi_calls.proofs.Decoding.{check_told}
use Rattle.abi_calls.proofs.code.check.Goals as goal

pub returns : goal.returns
returns c = check_told c.args.bytes.now c.check_slice.result _ (to_z-of_z w32 c.code_of.result (search rules) ∙ c.code_of.ensures) c.check_slice.ensures.decoded
