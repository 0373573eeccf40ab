use Rattle.std.proofs.Common.{subst}
use Rattle.std.proofs.lemmas.List.{take_all}
use Rattle.atproto_mst.proofs.Opening.{HasAllOf, name_added}
use Rattle.atproto_mst.proofs.levels.set_of.Goals as goal

pub loop-name-preserved : goal.loop-name-preserved
loop-name-preserved c =
    name_added c.args.names.now c.loop-name.name-index c.name-item.result c.loop-name.set c.add.new.self c.loop-name-test.true c.name-item.is c.in_ok-add.ensures c.loop-name.invariant

pub returns : goal.returns
returns c = subst (HasAllOf c.loop-name.set) (take_all c.loop-name.name-index c.args.names.now c.loop-name-test.false) c.loop-name.invariant
