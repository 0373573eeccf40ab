use Rattle.dagcbor_blocks.proofs.Listing.{SoFar}
use Rattle.dagcbor_blocks.proofs.store.Blocks.missing_of_some.Given as goal

abbrev pub invariant-loop-name : goal.invariant-loop-name
invariant-loop-name l = SoFar l.self.blocks l.name-iterator l.missing
