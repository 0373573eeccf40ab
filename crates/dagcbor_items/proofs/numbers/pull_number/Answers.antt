use Rattle.std.proofs.Common.{rules, ◌∙◌}
use Rattle.std.proofs.lemmas.Int.{to_z-of_z}
use mir.Syntax.{w128}
use mir.Val.{SFits}
use Rattle.dagcbor_items.proofs.HeadMajors.{as_value}
use Rattle.dagcbor_items.proofs.Integers.{number_taken}
use Rattle.dagcbor_items.proofs.numbers.pull_number.Goals as goal

pub returns-clause-number : goal.returns-clause-number
returns-clause-number g c =
    let fits : SFits w128 c.number_of.result = search rules in
    as_value _ _ (to_z-of_z w128 c.number_of.result fits ∙ c.number_of.ensures) (number_taken c.in_ok-major.ensures.kind)
