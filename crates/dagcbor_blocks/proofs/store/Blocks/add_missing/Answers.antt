use Rattle.std.proofs.Common.{arith}
use Rattle.dagcbor_blocks.proofs.Missing.{added_none, added_next, added_all}
use Rattle.dagcbor_blocks.proofs.store.Blocks.add_missing.Goals as goal

pub loop-link-init : goal.loop-link-init
loop-link-init c = added_none c.args.self.now.blocks c.args.missing.now

pub loop-link-preserved : goal.loop-link-preserved
loop-link-preserved c = added_next c.args.self.now.blocks c.args.links.now c.loop-link.link-index c.link-item.result c.args.missing.now c.loop-link.missing c.add_if_missing.new.missing c.loop-link-test.true c.link-item.is c.loop-link.invariant c.in_ok-add_if_missing.ensures

pub returns : goal.returns
returns c = added_all c.args.self.now.blocks c.args.links.now c.loop-link.link-index c.args.missing.now c.loop-link.missing (omega arith) (omega arith) c.loop-link.invariant
