use Rattle.std.proofs.Common.{arith}
use Rattle.atproto_mst.proofs.Orders.{last_rises}
use Rattle.atproto_mst.proofs.entries.check_order.Goals as goal

pub returns : goal.returns
returns c = c.loop-index.invariant.1 (last_rises c.args.all.now c.loop-index.index c.in-Some.last (omega (arith, c.in-Some.ensures)) (omega (arith, c.in-Some.ensures)))
