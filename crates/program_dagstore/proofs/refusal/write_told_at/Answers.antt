use Rattle.std.proofs.Common.{refl, Err, codes, [], ◌∷◌, ◌++◌, ◌∙◌, decimal}
use Rattle.program_dagstore.proofs.Sending.{front_both, front_stopped, told_number}
use Rattle.program_dagstore.proofs.refusal.write_told_at.Goals as goal

pub returns-in_err-write_both : goal.returns-in_err-write_both
returns-in_err-write_both g c =
    told_number _ _ c.args.first.now c.args.second.now c.args.words.now c.as_bytes.result.now c.args.second.now c.args.words.now (decimal c.args.number) c.args.number c.from_residual.result c.as_bytes.ensures.value refl refl refl
    (front_stopped _ _ (codes "dagstore: " ++ c.as_bytes.result.now) ((c.args.second.now ++ c.args.words.now) ++ (decimal c.args.number ++ 10 ∷ [])) (Err c.in_err-write_both.field-0.0) c.from_residual.result _ c.from_residual.ensures.1 c.in_err-write_both.ensures)

pub returns-in_err-write_both-2 : goal.returns-in_err-write_both-2
returns-in_err-write_both-2 g c =
    told_number _ _ c.args.first.now c.args.second.now c.args.words.now c.as_bytes.result.now c.as_bytes-2.result.now c.as_bytes-3.result.now (decimal c.args.number) c.args.number c.from_residual-in_err-write_both-2.result c.as_bytes.ensures.value c.as_bytes-2.ensures.value c.as_bytes-3.ensures.value refl
    (front_both _ _ _ (codes "dagstore: " ++ c.as_bytes.result.now) ((c.as_bytes-2.result.now ++ c.as_bytes-3.result.now) ++ (decimal c.args.number ++ 10 ∷ [])) _ c.from_residual-in_err-write_both-2.result _ refl c.in_ok-write_both.ensures
    (front_stopped _ _ (c.as_bytes-2.result.now ++ c.as_bytes-3.result.now) (decimal c.args.number ++ 10 ∷ []) (Err c.in_err-write_both-2.field-0.0) c.from_residual-in_err-write_both-2.result _ c.from_residual-in_err-write_both-2.ensures.1 c.in_err-write_both-2.ensures))

pub returns : goal.returns
returns g c =
    told_number _ _ c.args.first.now c.args.second.now c.args.words.now c.as_bytes.result.now c.as_bytes-2.result.now c.as_bytes-3.result.now c.as_bytes-4.result.now c.args.number c.write_both-3.result c.as_bytes.ensures.value c.as_bytes-2.ensures.value c.as_bytes-3.ensures.value (c.as_bytes-4.ensures.value ∙ c.format.ensures.text)
    (front_both _ _ _ (codes "dagstore: " ++ c.as_bytes.result.now) ((c.as_bytes-2.result.now ++ c.as_bytes-3.result.now) ++ (c.as_bytes-4.result.now ++ 10 ∷ [])) _ c.write_both-3.result _ refl c.in_ok-write_both.ensures
    (front_both _ _ _ (c.as_bytes-2.result.now ++ c.as_bytes-3.result.now) (c.as_bytes-4.result.now ++ 10 ∷ []) _ c.write_both-3.result _ refl c.in_ok-write_both-2.ensures c.write_both-3.ensures))
