use Rattle.std.proofs.Common.{List}
use Rattle.sqlite_trees.specs.View.{IsClean}
use Rattle.files_car.specs.Car.{Section}
use Rattle.store_on_disk.specs.Stored.{IsSame}
use Rattle.store_rows.specs.Ends.{Quiet}
use Rattle.store_on_disk.proofs.Walking.{IsWalked}
use Rattle.store_on_disk.proofs.Unlisted.{LostOf}
use Rattle.store_on_disk.proofs.store.BlockStore.lost.Given as goal

abbrev pub invariant-loop-count : goal.invariant-loop-count
invariant-loop-count g l = Quiet g.S.Store l.fn.self l.self
    × (IsClean (g.S.Store.view l.self) → IsSame (g.S.Store.view l.fn.self) (g.S.Store.view l.self)
    × ((ss : List Section) × IsWalked (g.S.Store.view l.fn.self) l.last ss × LostOf (g.S.Store.view l.fn.self) ss l.lost))
