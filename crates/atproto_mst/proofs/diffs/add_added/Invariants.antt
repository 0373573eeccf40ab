use Rattle.std.proofs.Common.{◌≡◌, ◌++◌, drop}
use Rattle.atproto_mst.specs.Entries.{entries}
use Rattle.atproto_mst.specs.Changes.{changes}
use Rattle.atproto_mst.specs.Merging.{added}
use Rattle.atproto_mst.proofs.diffs.add_added.Given as goal

abbrev pub invariant-loop-entry : goal.invariant-loop-entry
invariant-loop-entry l = changes l.fn.found.items ++ added (entries l.rest) ≡ changes l.found.items ++ added (entries (drop l.entry-index l.rest))
