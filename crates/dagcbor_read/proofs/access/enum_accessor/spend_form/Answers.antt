use Rattle.dagcbor_heads.proofs.Taking.{stays}
use Rattle.dagcbor_heads.proofs.Refusing.{as_refusal}
use Rattle.dagcbor_read.specs.Enums.{StepEnumCause}
use Rattle.dagcbor_read.proofs.Entering.{no_step_told}
use Rattle.dagcbor_read.proofs.access.enum_accessor.spend_form.Goals as goal

pub returns-in_err-spend_step-clause-form : goal.returns-in_err-spend_step-clause-form
returns-in_err-spend_step-clause-form g c =
    as_refusal _ _ _ _ c.from_residual.ensures.1 (no_step_told (StepEnumCause c.args.name.now) _ (stays _) c.in_err-spend_step.ensures (λ h. h.1) (λ n named b. named))
