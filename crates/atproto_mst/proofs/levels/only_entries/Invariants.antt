use Rattle.std.proofs.Common.{◌≡◌, map}
use Rattle.atproto_mst.specs.Entries.{entries}
use Rattle.atproto_mst.specs.Levels.{an_entry, held_items}
use Rattle.atproto_mst.proofs.levels.only_entries.Given as goal

abbrev pub invariant-loop-held : goal.invariant-loop-held
invariant-loop-held l = held_items l.yielded ≡ map an_entry (entries l.all.items)
