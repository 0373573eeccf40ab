use Rattle.std.proofs.Common.{arith, to_z-of_z}
use Rattle.sqlite_trees.specs.View.{IsClean}
use Rattle.store_rows.proofs.Steps.{entry_taken}
use Rattle.store_rows.proofs.Ending.{then_ends}
use Rattle.store_rows.proofs.entries.take_entry.Goals as goal

pub returns-clause-ends : goal.returns-clause-ends
returns-clause-ends g c = then_ends g.S.Store c.args.store.now c.take_row.new.store c.unlist.new.store c.unlist.result c.in_ok-take_row.ensures.ends (λ long. long) c.unlist.ensures.ends

pub returns-clause-ok : goal.returns-clause-ok
returns-clause-ok g c =
    entry_taken c.unlist.result _ (g.S.Store.view c.args.store.now) (g.S.Store.view c.take_row.new.store) (g.S.Store.view c.unlist.new.store) c.args.id c.args.name.now
    (λ clean.
    let mid : IsClean (g.S.Store.view c.take_row.new.store) = omega (arith, c.unlist.ensures.ends.quiet.clean) in
    let fits = c.ranges.id in simp to_z-of_z at (c.in_ok-take_row.ensures.ok mid))
    (let fits = c.ranges.id in simp to_z-of_z at c.unlist.ensures.ok)
