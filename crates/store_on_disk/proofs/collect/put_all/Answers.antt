use Rattle.std.proofs.Common.{arith}
use Rattle.ipld_links.proofs.Reaching.{name_seen}
use Rattle.store_on_disk.proofs.Marking.{all_none, all_next, all_all}
use Rattle.store_on_disk.proofs.collect.put_all.Goals as goal

pub loop-name-init : goal.loop-name-init
loop-name-init c = all_none c.args.kept.now

pub loop-name-preserved : goal.loop-name-preserved
loop-name-preserved c =
    all_next c.args.names.now c.loop-name.name-index c.name-item.result c.args.kept.now c.loop-name.kept c.insert.new.self c.loop-name-test.true c.name-item.is c.loop-name.invariant
    (name_seen c.name-item.result c.loop-name.kept c.insert.new.self c.in-Ok.ensures.updates.0)

pub returns : goal.returns
returns c = all_all c.args.names.now c.loop-name.name-index c.args.kept.now c.loop-name.kept (omega arith) (omega arith) c.loop-name.invariant
