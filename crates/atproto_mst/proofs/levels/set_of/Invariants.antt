use Rattle.std.proofs.Common.{take}
use Rattle.atproto_mst.proofs.Opening.{HasAllOf}
use Rattle.atproto_mst.proofs.levels.set_of.Given as goal

abbrev pub invariant-loop-name : goal.invariant-loop-name
invariant-loop-name l = HasAllOf l.set (take l.name-index l.names)
