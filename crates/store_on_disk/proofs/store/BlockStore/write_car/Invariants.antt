use Rattle.std.proofs.Common.{List}
use Rattle.dagcbor_items.specs.Walks.{forms}
use Rattle.files_car.specs.Car.{Section}
use Rattle.store_on_disk.proofs.Walking.{IsWritten}
use Rattle.store_on_disk.proofs.store.BlockStore.write_car.Given as goal

abbrev pub invariant-loop-count : goal.invariant-loop-count
invariant-loop-count g l = (ss : List Section) × IsWritten g.S.Store (forms l.roots) l.fn.self (g.W.Write.written l.fn.writer) l.last ss (g.W.Write.written l.writer) l.self
