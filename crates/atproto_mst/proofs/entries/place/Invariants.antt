use Rattle.std.proofs.Common.{◌≡◌, take}
use Rattle.atproto_mst.specs.Trees.{leaves}
use Rattle.atproto_mst.specs.Placed.{all_told}
use Rattle.atproto_mst.specs.Entries.{entries}
use Rattle.atproto_mst.proofs.entries.place.Given as goal

abbrev pub invariant-loop-entry : goal.invariant-loop-entry
invariant-loop-entry l = all_told l.placed.items ≡ leaves (entries (take l.entry-index l.all))
