use Rattle.std.proofs.Common.{◌≡◌, take}
use Rattle.sqlite_trees.specs.View.{IsClean}
use Rattle.store_rows.specs.Ends.{Quiet}
use Rattle.store_on_disk.specs.Roots.{AreRootsAdded, KnowsRoots}
use Rattle.store_on_disk.proofs.store.BlockStore.add_roots.Given as goal

abbrev pub invariant-loop-name : goal.invariant-loop-name
invariant-loop-name g l = Quiet g.S.Store l.fn.self l.self
    × (IsClean (g.S.Store.view l.self) → AreRootsAdded (g.S.Store.view l.fn.self) (g.S.Store.view l.self) (take l.name-index l.names))
    × ((g.S.Store.view l.self).shape ≡ (g.S.Store.view l.fn.self).shape)
    × (IsClean (g.S.Store.view l.self) → KnowsRoots (g.S.Store.view l.self) l.known)
