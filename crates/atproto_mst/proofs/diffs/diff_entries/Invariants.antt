use Rattle.std.proofs.Common.{◌+◌, ◌-◌, ◌≤◌, drop, length}
use Rattle.atproto_mst.specs.Entries.{entries}
use Rattle.atproto_mst.specs.Changes.{changes}
use Rattle.atproto_mst.proofs.Merging.{diff_of, Merged, SameRests}
use Rattle.atproto_mst.proofs.diffs.diff_entries.Given as goal

abbrev pub invariant-loop-i : goal.invariant-loop-i
invariant-loop-i l = record {
  i_bound : l.i ≤ length l.old;
  j_bound : l.j ≤ length l.new;
  same : SameRests l.old l.new l.i l.j;
  merged : Merged (diff_of (entries l.old) (entries l.new)) (changes l.found.items) (drop l.i l.old) (drop l.j l.new);
}

abbrev pub decreases-loop-i : goal.decreases-loop-i
decreases-loop-i l = (length l.old - l.i) + (length l.new - l.j)
