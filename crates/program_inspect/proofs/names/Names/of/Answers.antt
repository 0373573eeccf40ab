use Rattle.std.proofs.Common.{◌∙◌}
use Rattle.program_inspect.proofs.Counting.{distinct_more}
use Rattle.program_inspect.proofs.names.Names.of.Goals as goal

pub loop-cid-preserved : goal.loop-cid-preserved
loop-cid-preserved c = c.in_ok-add.ensures ∙ distinct_more c.args.cids.now c.loop-cid.cid-index c.cid-item.result c.loop-cid.names.cids.keys c.loop-cid-test.true c.cid-item.is c.loop-cid.invariant
