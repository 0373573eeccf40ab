use Rattle.std.proofs.Common.{arith, to_z-of_z}
use Rattle.sqlite_trees.specs.View.{IsClean}
use Rattle.store_rows.specs.Rows.{block_tree}
use Rattle.store_rows.proofs.Numbers.{table_rows, row_in, reads_none}
use Rattle.store_rows.proofs.entries.is_stored.Goals as goal

pub returns-then-branch-clause-ok : goal.returns-then-branch-clause-ok
returns-then-branch-clause-ok g c clean =
    let old = g.S.Store.view c.args.store.now in
    let was : IsClean old = omega (arith, c.get.ensures.quiet.clean) in
    let table = table_rows old block_tree (c.requires.blocks was) (g.met.S.Store.ordered c.args.store.now (c.in_ok-get.ensures.sound clean)) in
    row_in (old.trees block_tree) c.args.id c.args.name.now c.args.bytes.now c.get.new.row c.is_row.result table (rw c.if-branch.true at (let fits = c.ranges.id in simp to_z-of_z at (c.in_ok-get.ensures.ok clean))) c.is_row.ensures

pub returns-else-branch-clause-ok : goal.returns-else-branch-clause-ok
returns-else-branch-clause-ok g c clean = reads_none ((g.S.Store.view c.args.store.now).trees block_tree) c.args.id c.args.name.now c.get.new.row (rw c.if-branch.false at (let fits = c.ranges.id in simp to_z-of_z at (c.in_ok-get.ensures.ok clean))) c.args.bytes.now
