use Rattle.std.proofs.Common.{length}
use Rattle.ipld_links.specs.Reaching.{stored_in}
use Rattle.files_car.proofs.Holding.{SoFar}
use Rattle.files_car.proofs.blocks.section_blocks.Given as goal

abbrev pub invariant-loop-rest : goal.invariant-loop-rest
invariant-loop-rest l = SoFar l.bytes l.rest (stored_in l.blocks)

abbrev pub decreases-loop-rest : goal.decreases-loop-rest
decreases-loop-rest l = length l.rest
