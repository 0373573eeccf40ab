use Rattle.std.proofs.Common.{take}
use Rattle.sqlite_trees.specs.View.{IsClean}
use Rattle.store_rows.specs.Ends.{Quiet}
use Rattle.store_on_disk.specs.Stored.{IsSame}
use Rattle.store_on_disk.specs.Collecting.{Marks}
use Rattle.store_on_disk.proofs.store.BlockStore.mark.Given as goal

abbrev pub invariant-loop-root : goal.invariant-loop-root
invariant-loop-root g l = Quiet g.S.Store l.fn.self l.self
    × (IsClean (g.S.Store.view l.self) → IsSame (g.S.Store.view l.fn.self) (g.S.Store.view l.self)
    × Marks (g.S.Store.view l.fn.self) (take l.root-index l.roots) l.kept)
