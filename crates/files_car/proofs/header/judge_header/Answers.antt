use Rattle.std.proofs.lemmas.Result.{err_from_is_err_and}
use Rattle.files_car.proofs.Headers.{not_counted, not_read, header_found}
use Rattle.files_car.proofs.HeaderShape.{counts_no_memory}
use Rattle.files_car.proofs.header.judge_header.Goals as goal

pub returns-in_err-inner-clause-header : goal.returns-in_err-inner-clause-header
returns-in_err-inner-clause-header c =
    let p = err_from_is_err_and c.from_residual.result c.from_residual.ensures.1 in
    rw (p.1, p.2) (not_counted c.in_err-inner.field-0.0 c.args.bytes.now c.in_err-inner.ensures)

pub returns-in_err-inner-clause-memory : goal.returns-in_err-inner-clause-memory
returns-in_err-inner-clause-memory c =
    let p = err_from_is_err_and c.from_residual.result c.from_residual.ensures.1 in
    rw (p.1, p.2) (counts_no_memory c.in_err-inner.field-0.0 c.args.bytes.now c.in_err-inner.ensures)

pub returns-in_err-judge_block-clause-header : goal.returns-in_err-judge_block-clause-header
returns-in_err-judge_block-clause-header c =
    let p = err_from_is_err_and c.from_residual-in_err-judge_block.result c.from_residual-in_err-judge_block.ensures.1 in
    rw (p.1, p.2) (not_read c.in_err-judge_block.field-0.0 c.args.bytes.now c.in_ok-inner.inner.now c.in_ok-inner.rest.now c.in_ok-inner.ensures c.in_err-judge_block.ensures.header)

pub returns-in_err-judge_block-clause-memory : goal.returns-in_err-judge_block-clause-memory
returns-in_err-judge_block-clause-memory c =
    let p = err_from_is_err_and c.from_residual-in_err-judge_block.result c.from_residual-in_err-judge_block.ensures.1 in
    rw (p.1, p.2) c.in_err-judge_block.ensures.memory

pub returns-clause-header : goal.returns-clause-header
returns-clause-header c =
    let k = c.in_ok-judge_block.ensures.header in
    (k.0, k.1, header_found c.args.bytes.now c.in_ok-inner.inner.now c.in_ok-inner.rest.now k.0 c.in_ok-inner.ensures k.1)
