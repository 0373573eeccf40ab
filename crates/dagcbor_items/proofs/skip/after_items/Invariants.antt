use Rattle.std.proofs.Common.{length}
use Rattle.dagcbor_items.proofs.Skipping.{Skipping}
use Rattle.dagcbor_items.proofs.skip.after_items.Given as goal

abbrev pub invariant-loop-more : goal.invariant-loop-more
invariant-loop-more l = Skipping l.bytes l.count l.more l.rest

abbrev pub decreases-loop-more : goal.decreases-loop-more
decreases-loop-more l = length l.rest
