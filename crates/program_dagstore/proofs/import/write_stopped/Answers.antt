use Rattle.std.proofs.Common.{refl, Err, subst}
use Rattle.program_shared.specs.Writing.{WritesFront}
use Rattle.program_dagstore.specs.Files.{after_line, file_text}
use Rattle.program_dagstore.specs.Refusals.{dagstore_line}
use Rattle.program_dagstore.proofs.Sending.{front_both, front_stopped}
use Rattle.program_dagstore.proofs.import.write_stopped.Goals as goal

pub returns-in_err-write_place : goal.returns-in_err-write_place
returns-in_err-write_place g c =
    front_stopped _ _ (after_line c.args.count) (dagstore_line (file_text c.args.error.now)) (Err c.in_err-write_place.field-0.0) c.from_residual.result _ c.from_residual.ensures.1 c.in_err-write_place.ensures

pub returns : goal.returns
returns g c =
    front_both _ _ _ (after_line c.args.count) (dagstore_line (file_text c.args.error.now)) _ c.write_told.result _ refl c.in_ok-write_place.ensures
    (subst (λ text. WritesFront (g.V.Write.contents c.write_place.new.errors) (g.V.Write.contents c.write_told.new.errors) c.write_told.result (dagstore_line text)) c.file_words.ensures c.write_told.ensures)
