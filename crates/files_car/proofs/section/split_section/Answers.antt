use Rattle.std.specs.declared.convert.Infallible.{Infallible}
use Rattle.std.proofs.lemmas.Result.{err_from_is_err_and}
use Rattle.files_car.proofs.Counts.{no_section_counted, no_section_named}
use Rattle.files_car.proofs.section.split_section.Goals as goal

pub returns-in_err-body : goal.returns-in_err-body
returns-in_err-body c =
    let p = err_from_is_err_and c.from_residual.result c.from_residual.ensures.1 in
    rw (p.1, p.2) (no_section_counted c.in_err-body.field-0.0 c.args.bytes.now c.in_err-body.ensures)

pub returns-in-Err : goal.returns-in-Err
returns-in-Err c = no_section_named Infallible c.in-Err.fault c.args.bytes.now c.in_ok-body.body.now c.in_ok-body.rest.now c.in_ok-body.ensures c.in-Err.ensures
