use Rattle.std.proofs.Common.{ℕ, Vec, Option, Global}
use Rattle.std.proofs.lemmas.Result.{err_from_is_err_and}
use Rattle.serde_ipld_dagcbor.specs.Inputs.{input_reading}
use Rattle.serde_ipld_dagcbor.specs.Cid.{CidParts}
use Rattle.serde_ipld_dagcbor.specs.Walks.{forms}
use Rattle.dagcbor_blocks.specs.Blocks.{held_blocks}
use Rattle.dagcbor_blocks.proofs.Reading.{read_begun, not_begun, read_stopped, read_all}
use Rattle.dagcbor_blocks.proofs.store.Blocks.read_car.Goals as goal

pub returns-in-Err : goal.returns-in-Err
returns-in-Err g c = not_begun (Vec CidParts Global × Option ℕ) c.in-Err.error (input_reading g.R.Read.reading c.args.input.now) (input_reading g.R.Read.reading c.pull_header.new.input) (held_blocks c.args.self.now) c.in-Err.ensures.taken c.in-Err.ensures.memory

pub returns-in_err-_count : goal.returns-in_err-_count
returns-in_err-_count g c =
    let p = err_from_is_err_and c.from_residual.result c.from_residual.ensures.1 in
    rw (p.1, p.2) (read_stopped (forms c.in-Ok.begun.0.items) (input_reading g.R.Read.reading c.args.input.now) (held_blocks c.args.self.now) _ _ _ c.in_err-_count.field-0.0 _ _ _ (read_begun (forms c.in-Ok.begun.0.items) _ _ _ _ c.in-Ok.ensures.taken) c.in_err-_count.ensures)

pub returns : goal.returns
returns g c = read_all (Unit {0}) (forms c.in-Ok.begun.0.items) (input_reading g.R.Read.reading c.args.input.now) (held_blocks c.args.self.now) _ _ _ _ _ _ _ (read_begun (forms c.in-Ok.begun.0.items) _ _ _ _ c.in-Ok.ensures.taken) c.in_ok-_count.ensures
