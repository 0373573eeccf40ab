use Rattle.std.proofs.Common.{arith}
use Rattle.sqlite_trees.specs.View.{IsClean}
use Rattle.store_rows.proofs.Numbers.{table_rows, frees, frees_first, frees_above, first_above}
use Rattle.store_rows.proofs.entries.free_number.Goals as goal

pub returns-then-branch-clause-ok : goal.returns-then-branch-clause-ok
returns-then-branch-clause-ok g c clean =
    let old = g.S.Store.view c.args.store.now in
    let was : IsClean old = omega (arith, c.last.ensures.quiet.clean) in
    let table = table_rows old c.args.table (c.requires.table was) (g.met.S.Store.ordered c.args.store.now (c.in_ok-last.ensures.sound clean)) in
    frees (old.trees c.args.table) c.last.new.row c.number_above.result table (rw c.if-branch.true at (c.in_ok-last.ensures.ok clean)) (rw c.get.ensures at c.number_above.ensures)

pub returns-else-branch-clause-ok : goal.returns-else-branch-clause-ok
returns-else-branch-clause-ok g c clean = frees_first ((g.S.Store.view c.args.store.now).trees c.args.table) c.last.new.row (rw c.if-branch.false at (c.in_ok-last.ensures.ok clean))

pub returns-then-branch-clause-above : goal.returns-then-branch-clause-above
returns-then-branch-clause-above g c clean =
    let old = g.S.Store.view c.args.store.now in
    let was : IsClean old = omega (arith, c.last.ensures.quiet.clean) in
    let table = table_rows old c.args.table (c.requires.table was) (g.met.S.Store.ordered c.args.store.now (c.in_ok-last.ensures.sound clean)) in
    frees_above (old.trees c.args.table) c.last.new.row c.number_above.result table (rw c.if-branch.true at (c.in_ok-last.ensures.ok clean)) (rw c.get.ensures at c.number_above.ensures)

pub returns-else-branch-clause-above : goal.returns-else-branch-clause-above
returns-else-branch-clause-above g c clean = first_above ((g.S.Store.view c.args.store.now).trees c.args.table) c.last.new.row (rw c.if-branch.false at (c.in_ok-last.ensures.ok clean))
