use Rattle.std.proofs.Common.{take}
use Rattle.store_on_disk.specs.Collecting.{CollectsAll}
use Rattle.store_on_disk.proofs.collect.put_all.Given as goal

abbrev pub invariant-loop-name : goal.invariant-loop-name
invariant-loop-name l = CollectsAll (take l.name-index l.names) l.fn.kept l.kept
