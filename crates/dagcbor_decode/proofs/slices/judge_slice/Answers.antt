use Rattle.std.proofs.Common.{ap, ◌∙◌}
use Rattle.dagcbor_decode.specs.Decode.{decode}
use Rattle.dagcbor_decode.specs.Verdicts.{verdict}
use Rattle.dagcbor_decode.proofs.Laws.{kind_judged}
use Rattle.dagcbor_decode.proofs.Parts.{kind_placed, refusal_told}
use Rattle.dagcbor_decode.proofs.slices.judge_slice.Goals as goal

pub returns-in-Some-clause-decoded : goal.returns-in-Some-clause-decoded
returns-in-Some-clause-decoded c = kind_placed c.args.bytes.now _ (decode c.args.bytes.now) c.in-Some.ensures

pub returns-in-Some-clause-kind : goal.returns-in-Some-clause-kind
returns-in-Some-clause-kind c = kind_judged c.args.bytes.now _ (λ i. (c.type_inv.bytes i).fits) c.in-Some.ensures

pub returns-in-None-clause-decoded : goal.returns-in-None-clause-decoded
returns-in-None-clause-decoded c = c.refused_at.ensures ∙ ap (verdict c.args.bytes.now) (refusal_told _ _ (decode c.args.bytes.now) c.in-None.ensures)
