use Rattle.std.proofs.Common.{List}
use Rattle.files_car.specs.Car.{Section}
use Rattle.store_on_disk.proofs.Trees.{IsTreeWritten}
use Rattle.store_on_disk.proofs.store.BlockStore.push_tree.Given as goal

abbrev pub invariant-loop-name : goal.invariant-loop-name
invariant-loop-name g l = (ss : List Section) × IsTreeWritten g.S.Store l.root l.names l.fn.self (g.W.Write.written l.fn.writer) l.name-index ss (g.W.Write.written l.writer) l.self
