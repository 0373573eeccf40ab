use Rattle.std.proofs.Common.{take}
use Rattle.sqlite_trees.specs.View.{IsClean}
use Rattle.store_on_disk.specs.Ends.{Quiet}
use Rattle.store_on_disk.specs.Stored.{IsSame}
use Rattle.program_dagstore.specs.Lacking.{LeavesStored}
use Rattle.program_dagstore.proofs.lacking.lacking_of.Given as goal

abbrev pub invariant-loop-name : goal.invariant-loop-name
invariant-loop-name g l = Quiet g.S.Store l.fn.store l.store
    × (IsClean (g.S.Store.view l.store) → IsSame (g.S.Store.view l.fn.store) (g.S.Store.view l.store)
    × LeavesStored (g.S.Store.view l.fn.store) (take l.name-index l.names) l.lacking.items)
