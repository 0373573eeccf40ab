use Rattle.std.proofs.Common.{refl, Err, codes, ◌++◌}
use Rattle.text_cid.specs.Texts.{cid_text}
use Rattle.program_dagstore.specs.Files.{after_line}
use Rattle.program_dagstore.specs.Refusals.{dagstore_line, refusal_text}
use Rattle.program_dagstore.proofs.Sending.{front_both, front_stopped}
use Rattle.program_dagstore.proofs.import.write_unkept.Goals as goal

pub returns-in_err-write_place : goal.returns-in_err-write_place
returns-in_err-write_place g c =
    front_stopped _ _ (after_line c.args.count) (dagstore_line (codes "of " ++ cid_text c.args.name.now) ++ dagstore_line (refusal_text c.args.refusal.now)) (Err c.in_err-write_place.field-0.0) c.from_residual.result _ c.from_residual.ensures.1 c.in_err-write_place.ensures

pub returns : goal.returns
returns g c =
    front_both _ _ _ (after_line c.args.count) (dagstore_line (codes "of " ++ cid_text c.args.name.now) ++ dagstore_line (refusal_text c.args.refusal.now)) _ c.write_block.result _ refl c.in_ok-write_place.ensures c.write_block.ensures
