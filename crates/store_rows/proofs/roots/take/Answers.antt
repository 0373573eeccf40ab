use Rattle.std.proofs.Common.{rules, arith}
use Rattle.sqlite_trees.specs.View.{IsClean}
use Rattle.store_rows.specs.RootRows.{root_tree, root_row}
use Rattle.store_rows.proofs.Rooting.{found_among, table_of, takes_more, takes_done}
use Rattle.store_rows.proofs.roots.take.Goals as goal

pub returns-then-not-branch-clause-ok : goal.returns-then-not-branch-clause-ok
returns-then-not-branch-clause-ok g c clean =
    let now = g.S.Store.view c.rows.store in
    let mid : IsClean now = omega (arith, c.take_first.ensures.ends.quiet.clean) in
    takes_done ((g.S.Store.view c.args.store.now).trees root_tree) (now.trees root_tree) ((g.S.Store.view c.take_first.new.store).trees root_tree) c.args.name.now c.rows.taken
    (c.rows.invariant.1 mid) (rw c.if-not-branch.true at (c.in_ok-take_first.ensures.ok clean))

pub rows-preserved : goal.rows-preserved
rows-preserved g c = (
  search rules,
  λ clean.
      let now = g.S.Store.view c.rows.store in
      let name = c.args.name.now in
      let mid : IsClean now = omega (arith, c.take_first.ensures.ends.quiet.clean) in
      let t = rw c.if-not-branch.false at (c.in_ok-take_first.ensures.ok clean) in
      let there = found_among (now.trees root_tree) name t.0 t.1 in
      let table = table_of now (root_row t.0 name) (search rules) (g.met.S.Store.ordered c.rows.store (c.in_ok-take_first.ensures.ends.sound clean)) there in
      takes_more ((g.S.Store.view c.args.store.now).trees root_tree) (now.trees root_tree) ((g.S.Store.view c.take_first.new.store).trees root_tree) name c.rows.taken table (c.rows.invariant.1 mid) t,
)
