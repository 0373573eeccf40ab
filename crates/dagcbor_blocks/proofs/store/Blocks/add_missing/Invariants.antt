use Rattle.std.proofs.Common.{take}
use Rattle.dagcbor_blocks.proofs.Missing.{AddedSoFar}
use Rattle.dagcbor_blocks.proofs.store.Blocks.add_missing.Given as goal

abbrev pub invariant-loop-link : goal.invariant-loop-link
invariant-loop-link l = AddedSoFar l.self.blocks (take l.link-index l.links) l.fn.missing l.missing
