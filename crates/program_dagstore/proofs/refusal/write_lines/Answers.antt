use Rattle.std.proofs.Common.{refl, Err}
use Rattle.program_dagstore.specs.Refusals.{dagstore_line, refusal_text, state_lines}
use Rattle.program_dagstore.proofs.Sending.{front_both, front_stopped}
use Rattle.program_dagstore.proofs.refusal.write_lines.Goals as goal

pub returns-in_err-write_state : goal.returns-in_err-write_state
returns-in_err-write_state g c = front_stopped _ _ (state_lines c.args.refusal.now) (dagstore_line (refusal_text c.args.refusal.now)) (Err c.in_err-write_state.field-0.0) c.from_residual.result _ c.from_residual.ensures.1 c.in_err-write_state.ensures

pub returns : goal.returns
returns g c = front_both _ _ _ (state_lines c.args.refusal.now) (dagstore_line (refusal_text c.args.refusal.now)) _ c.write_refusal.result _ refl c.in_ok-write_state.ensures c.write_refusal.ensures
