use Rattle.std.proofs.Common.{◌<◌, take}
use Rattle.text_cid.proofs.GroupReads.{IsRead}
use Rattle.text_cid.proofs.groups.read_groups.Given as goal

abbrev pub invariant-loop-symbol : goal.invariant-loop-symbol
invariant-loop-symbol l = IsRead l.width l.symbols (take l.symbol-index l.text) l.bytes.items l.held l.rest × (l.held < 8)
