use Rattle.std.proofs.Common.{◌^◌, rules, codes}
use mir.Syntax.{w128}
use mir.Val.{SFits}
use Rattle.dagcbor_heads.proofs.Refusing.{as_refusal}
use Rattle.dagcbor_items.specs.Shapes.{natural_below}
use Rattle.dagcbor_items.proofs.Integers.{number_handed, number_narrowed, big_not_read, big_not_accepted}
use Rattle.dagcbor_items.proofs.numbers.pull_u128.Goals as goal

pub returns-in_err-number-clause-number : goal.returns-in_err-number-clause-number
returns-in_err-number-clause-number g c = as_refusal _ _ _ _ c.from_residual.ensures.1 (big_not_read (natural_below (2 ^ 128)) (codes "u128") _ _ _ c.in_err-number.ensures.number)

pub returns-in-Some-clause-number : goal.returns-in-Some-clause-number
returns-in-Some-clause-number g c =
    let fits : SFits w128 c.in_ok-number.number = search rules in
    number_narrowed (natural_below (2 ^ 128)) _ _ (number_handed (natural_below (2 ^ 128)) c.in_ok-number.number _ fits c.in-Some.ensures) c.in_ok-number.ensures.number

pub returns-in-None-clause-number : goal.returns-in-None-clause-number
returns-in-None-clause-number g c =
    let fits : SFits w128 c.in_ok-number.number = search rules in
    let told = c.out_of_range.ensures in
    rw told.1 (big_not_accepted g.row.R-Error.Denot (natural_below (2 ^ 128)) (codes "u128") _ told.0 (number_handed (natural_below (2 ^ 128)) c.in_ok-number.number _ fits c.in-None.ensures) told.2 c.in_ok-number.ensures.number)
