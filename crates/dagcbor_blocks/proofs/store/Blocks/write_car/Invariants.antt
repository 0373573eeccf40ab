use Rattle.serde_ipld_dagcbor.specs.Walks.{forms}
use Rattle.dagcbor_blocks.proofs.Keeping.{shown}
use Rattle.files_car.proofs.Writing.{WrittenTo}
use Rattle.dagcbor_blocks.proofs.store.Blocks.write_car.Given as goal

abbrev pub invariant-loop-name : goal.invariant-loop-name
invariant-loop-name g l = WrittenTo (forms l.roots) (shown l.self.blocks.entries) (shown l.name-iterator) (g.W.Write.written l.fn.writer) (g.W.Write.written l.writer)
