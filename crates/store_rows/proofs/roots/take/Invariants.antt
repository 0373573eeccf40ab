use Rattle.sqlite_trees.specs.View.{IsClean}
use Rattle.store_rows.specs.Ends.{IsOfRoots}
use Rattle.store_rows.specs.RootRows.{root_tree}
use Rattle.store_rows.proofs.Ending.{Goes}
use Rattle.store_rows.proofs.Rooting.{TakesSome}
use Rattle.store_rows.proofs.roots.take.Given as goal

abbrev pub invariant-rows : goal.invariant-rows
invariant-rows g l =
    let old = g.S.Store.view l.fn.store in
    let now = g.S.Store.view l.store in
    Goes g.S.Store IsOfRoots l.fn.store l.store
    × (IsClean now → TakesSome (old.trees root_tree) (now.trees root_tree) l.name l.taken)
