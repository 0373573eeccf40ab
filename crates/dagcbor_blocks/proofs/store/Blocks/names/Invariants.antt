use Rattle.dagcbor_blocks.proofs.Holding.{NamesSoFar}
use Rattle.dagcbor_blocks.proofs.store.Blocks.names.Given as goal

abbrev pub invariant-loop-name : goal.invariant-loop-name
invariant-loop-name l = NamesSoFar l.self.blocks.entries l.name-iterator l.names.items
