use Rattle.std.proofs.Common.{rules, w32, inl, inr, ◌∙◌}
use Rattle.std.proofs.lemmas.Int.{to_z-of_z}
use Rattle.abi_calls.proofs.Decoding.{refused_as}
use Rattle.abi_calls.proofs.find.put_followed.Goals as goal

pub returns-in-Err : goal.returns-in-Err
returns-in-Err c =
    let code = to_z-of_z w32 c.refusal_code.result (search rules) ∙ c.refusal_code.ensures in
    inr (λ i. c.args.places.now, inl (c.in-Ok.ensures.cases.1, refused_as c.args.block.now c.in-Err.refusal _ code c.in-Err.ensures.refused))
