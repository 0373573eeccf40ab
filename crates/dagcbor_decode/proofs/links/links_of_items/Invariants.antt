use Rattle.std.proofs.Common.{length}
use Rattle.dagcbor_decode.proofs.Rows.{LinksSoFar}
use Rattle.dagcbor_decode.proofs.links.links_of_items.Given as goal

abbrev pub invariant-loop-found : goal.invariant-loop-found
invariant-loop-found l = LinksSoFar l.items l.links.items l.rest

abbrev pub decreases-loop-found : goal.decreases-loop-found
decreases-loop-found l = length l.rest
