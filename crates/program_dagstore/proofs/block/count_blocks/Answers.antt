use Rattle.std.proofs.lemmas.Result.{err_from_is_err_and}
use Rattle.program_dagstore.specs.Blocks.{IsCountLine}
use Rattle.program_parts.proofs.Saying.{text_breaks}
use Rattle.program_dagstore.proofs.block.count_blocks.Goals as goal

pub returns-in_err-well-clause-says : goal.returns-in_err-well-clause-says
returns-in_err-well-clause-says g c =
    let p = err_from_is_err_and c.from_residual-in_err-well.result c.from_residual-in_err-well.ensures.1 in
    rw (p.1, p.2) (text_breaks (IsCountLine (g.S.Store.view c.args.store.now) (g.S.Store.view c.len.new.self)) c.in_ok-line.line.items _ _ c.in_err-well.field-0.0 (c.in_ok-count.count, c.in_ok-count.ensures.ok, c.in_ok-line.ensures) c.in_err-well.ensures)
