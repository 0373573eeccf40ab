use Rattle.std.proofs.Common.{rules, arith, subst, to_z-of_z, SFits, w64, None}
use Rattle.sqlite_trees.specs.View.{IsClean}
use Rattle.store_rows.specs.Rows.{block_tree, ReadsBlockRow}
use Rattle.store_rows.proofs.Causes.{only_reads}
use Rattle.store_rows.proofs.entries.get.Goals as goal

pub returns-in-None-clause-ok : goal.returns-in-None-clause-ok
returns-in-None-clause-ok g c clean =
    let mid : IsClean (g.S.Store.view c.find.new.store) = omega (arith, c.read.ensures.ends.quiet.clean) in
    let trees = (only_reads (g.S.Store.view c.args.store.now) (g.S.Store.view c.find.new.store) (c.in_ok-id.ensures.ends.frame mid)).1 in
    let fits : SFits w64 c.in-Some.id = search rules in
    (c.in-Some.id, rw c.in-Some.is at (c.in_ok-id.ensures.ok mid), subst (λ t. ReadsBlockRow (t block_tree) c.in-Some.id c.args.name.now None) trees (rw c.in-None.is at (simp to_z-of_z at (c.in_ok-bytes.ensures.ok clean))))
