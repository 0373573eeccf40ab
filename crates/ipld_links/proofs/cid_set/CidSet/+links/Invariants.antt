use Rattle.std.proofs.Common.{◌+◌, ◌*◌, length}
use Rattle.ipld_links.proofs.Within.{Adding}
use Rattle.ipld_links.proofs.cid_set.CidSet.+links.Given as goal

abbrev pub invariant-add_links-loop-found : goal.invariant-add_links-loop-found
invariant-add_links-loop-found l = Adding l.codec l.block l.held l.fn.self l.self l.rest

abbrev pub decreases-add_links-loop-found : goal.decreases-add_links-loop-found
decreases-add_links-loop-found l = length l.rest

abbrev pub decreases-add_links : goal.decreases-add_links
decreases-add_links l = 2 * length l.block.now + 1

abbrev pub decreases-add_link : goal.decreases-add_link
decreases-add_link l = 2 * (length l.link.now.digest + 1)
