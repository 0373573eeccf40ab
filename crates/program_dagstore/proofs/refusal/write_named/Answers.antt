use Rattle.std.proofs.Common.{refl, Err, codes, [], ◌∷◌, ◌++◌, ◌∙◌}
use Rattle.program_dagstore.proofs.Sending.{front_both, front_stopped, named_told}
use Rattle.program_dagstore.proofs.refusal.write_named.Goals as goal

pub returns-in_err-write_both : goal.returns-in_err-write_both
returns-in_err-write_both g c =
    named_told _ _ c.args.name.now c.args.first.now c.args.second.now c.deref.result.now c.args.first.now c.args.second.now c.from_residual.result (c.deref.ensures.0 ∙ c.cid_text.ensures.text) refl refl
    (front_stopped _ _ (codes "dagstore: " ++ c.deref.result.now) ((c.args.first.now ++ c.args.second.now) ++ 10 ∷ []) (Err c.in_err-write_both.field-0.0) c.from_residual.result _ c.from_residual.ensures.1 c.in_err-write_both.ensures)

pub returns-in_err-write_both-2 : goal.returns-in_err-write_both-2
returns-in_err-write_both-2 g c =
    named_told _ _ c.args.name.now c.args.first.now c.args.second.now c.deref.result.now c.as_bytes.result.now c.as_bytes-2.result.now c.from_residual-in_err-write_both-2.result (c.deref.ensures.0 ∙ c.cid_text.ensures.text) c.as_bytes.ensures.value c.as_bytes-2.ensures.value
    (front_both _ _ _ (codes "dagstore: " ++ c.deref.result.now) ((c.as_bytes.result.now ++ c.as_bytes-2.result.now) ++ 10 ∷ []) _ c.from_residual-in_err-write_both-2.result _ refl c.in_ok-write_both.ensures
    (front_stopped _ _ (c.as_bytes.result.now ++ c.as_bytes-2.result.now) (10 ∷ []) (Err c.in_err-write_both-2.field-0.0) c.from_residual-in_err-write_both-2.result _ c.from_residual-in_err-write_both-2.ensures.1 c.in_err-write_both-2.ensures))

pub returns : goal.returns
returns g c =
    named_told _ _ c.args.name.now c.args.first.now c.args.second.now c.deref.result.now c.as_bytes.result.now c.as_bytes-2.result.now c.write_all.result (c.deref.ensures.0 ∙ c.cid_text.ensures.text) c.as_bytes.ensures.value c.as_bytes-2.ensures.value
    (front_both _ _ _ (codes "dagstore: " ++ c.deref.result.now) ((c.as_bytes.result.now ++ c.as_bytes-2.result.now) ++ 10 ∷ []) _ c.write_all.result _ refl c.in_ok-write_both.ensures
    (front_both _ _ _ (c.as_bytes.result.now ++ c.as_bytes-2.result.now) (10 ∷ []) _ c.write_all.result _ refl c.in_ok-write_both-2.ensures c.write_all.ensures.written))
