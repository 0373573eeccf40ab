use Rattle.std.proofs.Common.{rules, ◌^◌, codes}
use Rattle.std.proofs.lemmas.Int.{to_z-of_z}
use mir.Syntax.{w128}
use mir.Val.{SFits}
use Rattle.dagcbor_heads.proofs.Refusing.{as_refusal}
use Rattle.dagcbor_items.specs.Shapes.{within}
use Rattle.dagcbor_items.proofs.HeadMajors.{as_value}
use Rattle.dagcbor_items.proofs.Integers.{within_i128, number_narrowed, big_not_read}
use Rattle.dagcbor_items.proofs.numbers.pull_i128.Goals as goal

pub returns-in_err-number-clause-number : goal.returns-in_err-number-clause-number
returns-in_err-number-clause-number g c = as_refusal _ _ _ _ c.from_residual.ensures.1 (big_not_read (within (2 ^ 127)) (codes "i128") _ _ _ c.in_err-number.ensures.number)

pub returns-clause-number : goal.returns-clause-number
returns-clause-number g c =
    let fits : SFits w128 c.in_ok-number.number = search rules in
    as_value _ _ (to_z-of_z w128 c.in_ok-number.number fits) (number_narrowed (within (2 ^ 127)) _ _ (within_i128 c.in_ok-number.number fits) c.in_ok-number.ensures.number)
