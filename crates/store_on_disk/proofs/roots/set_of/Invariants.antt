use Rattle.std.proofs.Common.{take}
use Rattle.store_on_disk.specs.Roots.{HasJust}
use Rattle.store_on_disk.proofs.roots.set_of.Given as goal

abbrev pub invariant-loop-name : goal.invariant-loop-name
invariant-loop-name l = HasJust (take l.name-index l.names) l.known
