use Rattle.std.proofs.lemmas.Result.{err_from_is_err_and}
use Rattle.store_rows.specs.declared.entries.Added.TheVariants.{New}
use Rattle.store_rows.proofs.Causes.{too_long_as}
use Rattle.store_rows.proofs.Ending.{as_writes, then_ok, then_err}
use Rattle.store_rows.proofs.entries.append.Goals as goal

pub returns-in_err-put-clause-ends : goal.returns-in_err-put-clause-ends
returns-in_err-put-clause-ends g c =
    let p = err_from_is_err_and c.from_residual-in_err-put.result c.from_residual-in_err-put.ensures.1 in
    let freed = as_writes g.S.Store c.args.store.now c.free_number.new.store c.in_ok-id.ensures.ends in
    rw (p.1, p.2) (then_err g.S.Store c.args.store.now c.free_number.new.store c.put.new.store freed (too_long_as c.args.name.now c.args.bytes.now (g.S.Store.view c.args.store.now) (g.S.Store.view c.free_number.new.store) freed.schema) c.in_err-put.ensures.ends)

pub returns-clause-ends : goal.returns-clause-ends
returns-clause-ends g c =
    let freed = as_writes g.S.Store c.args.store.now c.free_number.new.store c.in_ok-id.ensures.ends in
    then_ok g.S.Store c.args.store.now c.free_number.new.store c.put.new.store freed New c.in_ok-put.ensures.ends
