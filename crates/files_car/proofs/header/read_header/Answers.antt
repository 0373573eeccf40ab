use Rattle.std.proofs.lemmas.Result.{err_from_is_err_and}
use Rattle.dagcbor_items.specs.Walks.{forms}
use Rattle.files_car.specs.Car.{header_tree}
use Rattle.files_car.proofs.Headers.{header_block, roots_found}
use Rattle.files_car.proofs.header.read_header.Goals as goal

pub returns-in_err-judge_block : goal.returns-in_err-judge_block
returns-in_err-judge_block g c =
    let p = err_from_is_err_and c.from_residual.result c.from_residual.ensures.1 in
    rw (p.1, p.2) c.in_err-judge_block.ensures.header

pub returns-in-Ok : goal.returns-in-Ok
returns-in-Ok g c =
    let k = c.in_ok-judge_block.ensures.header in
    roots_found c.args.bytes.now (forms c.in-Ok.roots.items) k.0 c.in-Ok.ensures.links k.1

pub returns-in-Err : goal.returns-in-Err
returns-in-Err g c =
    let k = c.in_ok-judge_block.ensures.header in
    (header_tree k.0, header_block c.args.bytes.now k.0 k.1)
