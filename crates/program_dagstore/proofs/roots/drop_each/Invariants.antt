use Rattle.std.proofs.Common.{take, ◌≤◌}
use Rattle.sqlite_trees.specs.View.{IsClean}
use Rattle.store_on_disk.specs.Ends.{Quiet}
use Rattle.program_dagstore.specs.Changes.{Changes}
use Rattle.program_dagstore.specs.Roots.{DropsRoots, SplitsRoots}
use Rattle.program_dagstore.proofs.roots.drop_each.Given as goal

abbrev pub invariant-loop-name : goal.invariant-loop-name
invariant-loop-name g l = Quiet g.S.Store l.fn.store l.store
    × (IsClean (g.S.Store.view l.store) → Changes (DropsRoots (take l.name-index l.names)) (g.S.Store.view l.fn.store) (g.S.Store.view l.store))
    × (IsClean (g.S.Store.view l.store) → SplitsRoots (g.S.Store.view l.fn.store) (take l.name-index l.names) l.taken)
    × (l.taken.count ≤ l.name-index)
