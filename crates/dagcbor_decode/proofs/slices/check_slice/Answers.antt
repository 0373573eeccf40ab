use Rattle.std.proofs.Common.{ap, Err, ◌∙◌}
use Rattle.dagcbor_decode.specs.Decode.{decode}
use Rattle.dagcbor_decode.specs.Verdicts.{answer}
use Rattle.dagcbor_decode.proofs.Laws.{kind_judged}
use Rattle.dagcbor_decode.proofs.Parts.{kind_answered, refusal_told}
use Rattle.dagcbor_decode.proofs.slices.check_slice.Goals as goal

pub returns-in-Some-clause-decoded : goal.returns-in-Some-clause-decoded
returns-in-Some-clause-decoded c = kind_answered _ (decode c.args.bytes.now) c.in-Some.ensures

pub returns-in-Some-clause-kind : goal.returns-in-Some-clause-kind
returns-in-Some-clause-kind c = kind_judged c.args.bytes.now _ (λ i. (c.type_inv.bytes i).fits) c.in-Some.ensures

pub returns-in-None-clause-decoded : goal.returns-in-None-clause-decoded
returns-in-None-clause-decoded c = ap Err c.refusal.ensures ∙ ap answer (refusal_told _ _ (decode c.args.bytes.now) c.in-None.ensures)
