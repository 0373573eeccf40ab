use Rattle.std.proofs.Common.{◌+◌, rules}
use Rattle.std.proofs.lemmas.Int.{to_z-of_z}
use mir.Syntax.{w128}
use mir.Val.{SFits}
use Rattle.dagcbor_heads.proofs.Refusing.{as_refusal}
use Rattle.dagcbor_items.specs.Shapes.{within}
use Rattle.dagcbor_items.proofs.HeadMajors.{as_value}
use Rattle.dagcbor_items.proofs.Integers.{number_handed, number_narrowed, number_not_read, not_accepted}
use Rattle.dagcbor_items.proofs.numbers.pull_signed.Goals as goal

pub returns-in_err-number-clause-number : goal.returns-in_err-number-clause-number
returns-in_err-number-clause-number g c = as_refusal _ _ _ _ c.from_residual.ensures.1 (number_not_read (within (c.args.greatest + 1)) c.args.name.now _ _ _ c.in_err-number.ensures.number)

pub returns-in-Some-clause-number : goal.returns-in-Some-clause-number
returns-in-Some-clause-number g c =
    let fits : SFits w128 c.in_ok-number.number = search rules in
    let signed_fits : SFits w128 c.in-Some.signed = search rules in
    as_value _ _ (to_z-of_z w128 c.in-Some.signed signed_fits) (number_narrowed (within (c.args.greatest + 1)) _ _ (number_handed (within (c.args.greatest + 1)) c.in_ok-number.number _ fits c.in-Some.ensures) c.in_ok-number.ensures.number)

pub returns-in-None-clause-number : goal.returns-in-None-clause-number
returns-in-None-clause-number g c =
    let fits : SFits w128 c.in_ok-number.number = search rules in
    let told = c.out_of_range.ensures in
    rw told.1 (not_accepted g.row.R-Error.Denot (within (c.args.greatest + 1)) c.args.name.now _ told.0 (number_handed (within (c.args.greatest + 1)) c.in_ok-number.number _ fits c.in-None.ensures) told.2 c.in_ok-number.ensures.number)
