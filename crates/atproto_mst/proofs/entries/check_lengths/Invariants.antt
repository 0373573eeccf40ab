use Rattle.std.proofs.Common.{◌↔◌, drop}
use Rattle.atproto_mst.specs.Keys.{HaveKeys, HaveCids}
use Rattle.atproto_mst.specs.Entries.{entries}
use Rattle.atproto_mst.proofs.entries.check_lengths.Given as goal

abbrev pub invariant-loop-entry : goal.invariant-loop-entry
invariant-loop-entry l = record {
  keys : HaveKeys (entries l.all) ↔ HaveKeys (entries (drop l.entry-index l.all));
  cids : HaveCids (entries l.all) ↔ HaveCids (entries (drop l.entry-index l.all));
}
