use Rattle.std.proofs.Common.{take, ◌≤◌}
use Rattle.sqlite_trees.specs.View.{IsClean}
use Rattle.store_on_disk.specs.Ends.{Quiet}
use Rattle.store_on_disk.specs.Stored.{ListsName}
use Rattle.program_dagstore.specs.Changes.{Changes, ListsOthers, Splits}
use Rattle.program_dagstore.proofs.Removing.{AreValid}
use Rattle.program_dagstore.proofs.change.take_each.Given as goal

abbrev pub invariant-loop-name : goal.invariant-loop-name
invariant-loop-name g l = Quiet g.S.Store l.fn.store l.store
    × (IsClean (g.S.Store.view l.store) → Changes (ListsOthers (take l.name-index l.names)) (g.S.Store.view l.fn.store) (g.S.Store.view l.store))
    × (IsClean (g.S.Store.view l.store) → Splits (ListsName (g.S.Store.view l.fn.store)) (take l.name-index l.names) l.taken)
    × AreValid (take l.name-index l.names)
    × (l.taken.count ≤ l.name-index)
