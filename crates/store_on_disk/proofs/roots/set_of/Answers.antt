use Rattle.std.proofs.Common.{arith, subst}
use Rattle.store_on_disk.specs.Roots.{HasJust}
use Rattle.store_on_disk.proofs.ManyRoots.{just_more, all_taken}
use Rattle.store_on_disk.proofs.roots.set_of.Goals as goal

pub loop-name-preserved : goal.loop-name-preserved
loop-name-preserved c = just_more c.args.names.now c.loop-name.name-index c.name-item.result c.loop-name.known c.add.new.self c.loop-name-test.true c.name-item.is c.loop-name.invariant c.in_ok-add.ensures

pub returns : goal.returns
returns c = subst (λ ns. HasJust ns c.loop-name.known) (all_taken c.args.names.now c.loop-name.name-index (omega arith) (omega arith)) c.loop-name.invariant
