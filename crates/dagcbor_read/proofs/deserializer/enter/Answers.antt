use Rattle.dagcbor_heads.proofs.Taking.{stays}
use Rattle.dagcbor_heads.proofs.Refusing.{as_refusal}
use Rattle.dagcbor_read.specs.Accessors.{EnterCause}
use Rattle.dagcbor_read.proofs.Entering.{no_step_told, major_entered}
use Rattle.dagcbor_read.proofs.deserializer.enter.Goals as goal

pub returns-in_err-spend_step-clause-head : goal.returns-in_err-spend_step-clause-head
returns-in_err-spend_step-clause-head g c =
    as_refusal _ _ _ _ c.from_residual.ensures.1 (no_step_told (EnterCause c.args.major c.args.name.now) _ (stays _) c.in_err-spend_step.ensures (λ h. h.step) (λ n named b. named))

pub returns-in_err-count-clause-head : goal.returns-in_err-count-clause-head
returns-in_err-count-clause-head g c =
    let refused = c.in_err-count.ensures in
    as_refusal _ _ _ _ c.from_residual-in_err-count.ensures.1
    (major_entered c.args.major c.args.name.now _ _ c.in_ok-spend_step.ensures
    refused.variant refused.kind)
