use Rattle.std.proofs.Common.{refl, Err, codes, [], ◌∷◌, ◌++◌}
use Rattle.program_dagstore.proofs.Sending.{front_both, front_stopped, told_both}
use Rattle.program_dagstore.proofs.refusal.write_told.Goals as goal

pub returns-in_err-write_both : goal.returns-in_err-write_both
returns-in_err-write_both g c =
    told_both _ _ c.args.first.now c.args.second.now c.as_bytes.result.now c.args.second.now c.from_residual.result c.as_bytes.ensures.value refl
    (front_stopped _ _ (codes "dagstore: " ++ c.as_bytes.result.now) (c.args.second.now ++ 10 ∷ []) (Err c.in_err-write_both.field-0.0) c.from_residual.result _ c.from_residual.ensures.1 c.in_err-write_both.ensures)

pub returns : goal.returns
returns g c =
    told_both _ _ c.args.first.now c.args.second.now c.as_bytes.result.now c.as_bytes-2.result.now c.write_both-2.result c.as_bytes.ensures.value c.as_bytes-2.ensures.value
    (front_both _ _ _ (codes "dagstore: " ++ c.as_bytes.result.now) (c.as_bytes-2.result.now ++ 10 ∷ []) _ c.write_both-2.result _ refl c.in_ok-write_both.ensures c.write_both-2.ensures)
