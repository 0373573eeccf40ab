use Rattle.std.proofs.Common.{◌↔◌, drop}
use Rattle.atproto_mst.specs.Keys.{Rise}
use Rattle.atproto_mst.specs.Entries.{entries}
use Rattle.atproto_mst.proofs.entries.check_order.Given as goal

abbrev pub invariant-loop-index : goal.invariant-loop-index
invariant-loop-index l = Rise (entries l.all) ↔ Rise (entries (drop l.index l.all))
