use Rattle.std.proofs.Common.{refl, Err}
use Rattle.program_dagstore.proofs.Sending.{front_both, front_stopped}
use Rattle.program_dagstore.proofs.refusal.write_both.Goals as goal

pub returns-in_err-write_all : goal.returns-in_err-write_all
returns-in_err-write_all g c = front_stopped _ _ c.args.first.now c.args.second.now (Err c.in_err-write_all.field-0.0) c.from_residual.result _ c.from_residual.ensures.1 c.in_err-write_all.ensures.written

pub returns : goal.returns
returns g c = front_both _ _ _ c.args.first.now c.args.second.now _ c.write_all-2.result _ refl c.in_ok-write_all.ensures.written c.write_all-2.ensures.written
