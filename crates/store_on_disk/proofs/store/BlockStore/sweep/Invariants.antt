use Rattle.std.proofs.Common.{◌≤◌}
use Rattle.sqlite_trees.specs.View.{IsClean}
use Rattle.store_rows.specs.Ends.{Quiet}
use Rattle.store_on_disk.proofs.Sweeping.{SweptTo}
use Rattle.store_on_disk.proofs.store.BlockStore.sweep.Given as goal

abbrev pub invariant-loop-count : goal.invariant-loop-count
invariant-loop-count g l = Quiet g.S.Store l.fn.self l.self
    × (IsClean (g.S.Store.view l.self) → SweptTo (g.S.Store.view l.fn.self) (g.S.Store.view l.self) l.kept l.last l.taken)
    × (l.taken ≤ l._count)
