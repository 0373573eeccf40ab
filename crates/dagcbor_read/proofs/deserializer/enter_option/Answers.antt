use Rattle.dagcbor_heads.proofs.Refusing.{as_refusal}
use Rattle.dagcbor_read.specs.Options.{OptionCause}
use Rattle.dagcbor_read.proofs.Entering.{no_step_told}
use Rattle.dagcbor_read.proofs.Nullable.{wants_step}
use Rattle.dagcbor_read.proofs.deserializer.enter_option.Goals as goal

pub returns-in_err-spend_step-clause-entered : goal.returns-in_err-spend_step-clause-entered
returns-in_err-spend_step-clause-entered g c =
    as_refusal _ _ _ _ c.from_residual-in_err-spend_step.ensures.1 (no_step_told OptionCause _ c.in_ok-first.ensures.shown.same c.in_err-spend_step.ensures (wants_step c.in_ok-first.ensures.shown c.if-first.false) (λ n named b. named))
