use Rattle.std.proofs.Common.{length}
use Rattle.ipld_links.proofs.Rows.{LinksSoFar}
use Rattle.ipld_links.proofs.links.links_of_block.Given as goal

abbrev pub invariant-loop-found : goal.invariant-loop-found
invariant-loop-found l = LinksSoFar l.codec l.block l.links.items l.rest

abbrev pub decreases-loop-found : goal.decreases-loop-found
decreases-loop-found l = length l.rest
