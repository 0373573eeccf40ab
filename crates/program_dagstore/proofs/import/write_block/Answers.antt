use Rattle.std.proofs.Common.{refl, Err, codes, ◌++◌}
use Rattle.text_cid.specs.Texts.{cid_text}
use Rattle.program_dagstore.specs.Refusals.{dagstore_line, refusal_text}
use Rattle.program_dagstore.proofs.Sending.{front_both, front_stopped}
use Rattle.program_dagstore.proofs.import.write_block.Goals as goal

pub returns-in_err-write_name : goal.returns-in_err-write_name
returns-in_err-write_name g c =
    front_stopped _ _ (dagstore_line (codes "of " ++ cid_text c.args.name.now)) (dagstore_line (refusal_text c.args.refusal.now)) (Err c.in_err-write_name.field-0.0) c.from_residual.result _ c.from_residual.ensures.1 c.in_err-write_name.ensures

pub returns : goal.returns
returns g c =
    front_both _ _ _ (dagstore_line (codes "of " ++ cid_text c.args.name.now)) (dagstore_line (refusal_text c.args.refusal.now)) _ c.write_refusal.result _ refl c.in_ok-write_name.ensures c.write_refusal.ensures
