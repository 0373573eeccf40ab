use Rattle.std.proofs.Common.{take}
use Rattle.atproto_mst.proofs.Opening.{HasCommonOf}
use Rattle.atproto_mst.proofs.levels.common_names.Given as goal

abbrev pub invariant-loop-name : goal.invariant-loop-name
invariant-loop-name l = HasCommonOf l.common l.fn.names (take l.name-index l.others)
