use Rattle.std.proofs.Common.{refl, Err, codes, [], ◌∷◌, ◌++◌, ◌∙◌}
use Rattle.program_dagstore.proofs.Sending.{front_both, front_stopped, name_told}
use Rattle.program_dagstore.proofs.refusal.write_name.Goals as goal

pub returns-in_err-write_both : goal.returns-in_err-write_both
returns-in_err-write_both g c =
    name_told _ _ c.args.name.now c.deref.result.now c.from_residual.result (c.deref.ensures.0 ∙ c.cid_text.ensures.text)
    (front_stopped _ _ (codes "dagstore: of " ++ c.deref.result.now) (10 ∷ []) (Err c.in_err-write_both.field-0.0) c.from_residual.result _ c.from_residual.ensures.1 c.in_err-write_both.ensures)

pub returns : goal.returns
returns g c =
    name_told _ _ c.args.name.now c.deref.result.now c.write_all.result (c.deref.ensures.0 ∙ c.cid_text.ensures.text)
    (front_both _ _ _ (codes "dagstore: of " ++ c.deref.result.now) (10 ∷ []) _ c.write_all.result _ refl c.in_ok-write_both.ensures c.write_all.ensures.written)
