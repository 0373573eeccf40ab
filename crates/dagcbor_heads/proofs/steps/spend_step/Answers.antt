use Rattle.dagcbor_heads.proofs.steps.spend_step.Goals as goal

pub returns-then-step_in : goal.returns-then-step_in
returns-then-step_in g c = let step = c.if-step_in.ensures in record { some = step.0; is_out = step.1; is = step.2 }
