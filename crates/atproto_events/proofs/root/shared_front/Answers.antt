use Rattle.std.proofs.Common.{arith}
use Rattle.atproto_mst.proofs.Bits.{shared_over}
use Rattle.atproto_events.proofs.root.shared_front.Goals as goal

pub returns-clause-value : goal.returns-clause-value
returns-clause-value c = shared_over c.args.first.now c.args.second.now c.min-most.result c.loop-index.index (omega arith) (omega arith) c.loop-index.invariant
