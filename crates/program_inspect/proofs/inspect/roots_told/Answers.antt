use Rattle.program_inspect.proofs.Learning.{root_more}
use Rattle.program_inspect.proofs.inspect.roots_told.Goals as goal

pub loop-root-preserved : goal.loop-root-preserved
loop-root-preserved c = root_more c.args.missing.now c.in_ok-names.names.cids.keys c.args.roots.now c.loop-root.root-index c.root-item.result c.loop-root.told.items _ _ c.in_ok-names.ensures c.root_told.ensures c.loop-root-test.true c.root-item.is c.loop-root.invariant c.in_ok-push.ensures.items
