use Rattle.std.proofs.Common.{true, arith, rules, subst, to_z-of_z, SFits, w64}
use Rattle.std.proofs.lemmas.Result.{err_from_is_err_and}
use Rattle.sqlite_trees.specs.View.{IsClean}
use Rattle.store_rows.specs.Rows.{TakesOutEntry}
use Rattle.store_rows.proofs.Causes.{only_reads}
use Rattle.store_rows.proofs.Ending.{as_writes, then_ok, then_err}
use Rattle.store_rows.proofs.entries.take.Goals as goal

pub returns-in_err-take_entry-clause-ends : goal.returns-in_err-take_entry-clause-ends
returns-in_err-take_entry-clause-ends g c =
    let p = err_from_is_err_and c.from_residual-in_err-take_entry.result c.from_residual-in_err-take_entry.ensures.1 in
    let found = as_writes g.S.Store c.args.store.now c.find.new.store c.in_ok-id.ensures.ends in
    rw (p.1, p.2) (then_err g.S.Store c.args.store.now c.find.new.store c.take_entry.new.store found (λ long. long) c.in_err-take_entry.ensures.ends)

pub returns-clause-ends : goal.returns-clause-ends
returns-clause-ends g c =
    let found = as_writes g.S.Store c.args.store.now c.find.new.store c.in_ok-id.ensures.ends in
    then_ok g.S.Store c.args.store.now c.find.new.store c.take_entry.new.store found true c.in_ok-take_entry.ensures.ends

pub returns-clause-ok : goal.returns-clause-ok
returns-clause-ok g c clean =
    let old = g.S.Store.view c.args.store.now in
    let found = g.S.Store.view c.find.new.store in
    let new = g.S.Store.view c.take_entry.new.store in
    let mid : IsClean found = omega (arith, c.take_entry.ensures.ends.quiet.clean) in
    let trees = (only_reads old found (c.in_ok-id.ensures.ends.frame mid)).1 in
    let fits : SFits w64 c.in-Some.id = search rules in
    (c.in-Some.id, rw c.in-Some.is at (c.in_ok-id.ensures.ok mid), subst (λ t. TakesOutEntry t new.trees c.in-Some.id c.args.name.now) trees (simp to_z-of_z at (c.in_ok-take_entry.ensures.ok clean)))
