use Rattle.dagcbor_blocks.proofs.Reaching.{reachable_held}
use Rattle.dagcbor_blocks.proofs.store.Blocks.reach.Goals as goal

pub returns : goal.returns
returns c = reachable_held c.args.self.now.blocks c.args.root.now c.in_ok-found.field-0.found.items c.in_ok-found.ensures.reachable
