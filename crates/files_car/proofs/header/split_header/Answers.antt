use Rattle.std.proofs.lemmas.Result.{err_from_is_err_and}
use Rattle.files_car.proofs.Headers.{not_counted, not_read}
use Rattle.files_car.proofs.header.split_header.Goals as goal

pub returns-in_err-inner : goal.returns-in_err-inner
returns-in_err-inner c =
    let p = err_from_is_err_and c.from_residual.result c.from_residual.ensures.1 in
    rw (p.1, p.2) (not_counted c.in_err-inner.field-0.0 c.args.bytes.now c.in_err-inner.ensures)

pub returns-in_err-roots : goal.returns-in_err-roots
returns-in_err-roots c =
    let p = err_from_is_err_and c.from_residual-in_err-roots.result c.from_residual-in_err-roots.ensures.1 in
    rw (p.1, p.2) (not_read c.in_err-roots.field-0.0 c.args.bytes.now c.in_ok-inner.inner.now c.in_ok-inner.rest.now c.in_ok-inner.ensures c.in_err-roots.ensures)
