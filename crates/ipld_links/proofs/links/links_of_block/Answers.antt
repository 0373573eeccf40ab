use Rattle.ipld_links.proofs.Rows.{none_so_far, one_so_far, first_so_far}
use Rattle.ipld_links.proofs.links.links_of_block.Goals as goal

pub next_link-requires : goal.next_link-requires
next_link-requires c = (c.loop-found.invariant.more, c.loop-found.invariant.left)

pub loop-found-init : goal.loop-found-init
loop-found-init c = rw c.new-links.ensures.items (none_so_far c.args.codec c.args.block.now c.requires)

pub loop-found-preserved : goal.loop-found-preserved
loop-found-preserved c = rw c.in_ok-push.ensures.items (one_so_far c.args.codec c.args.block.now c.loop-found.links.items c.in-Some.found.0 c.loop-found.rest.now c.in-Some.found.1.now c.loop-found.invariant (c.in-Some.ensures.link c.loop-found.invariant.more c.loop-found.invariant.left) c.in-Some.ensures.shorter)

pub returns : goal.returns
returns c = first_so_far c.args.codec c.args.block.now c.loop-found.links.items c.loop-found.rest.now c.loop-found.invariant (c.in_default.ensures.link c.loop-found.invariant.more c.loop-found.invariant.left)
