use Rattle.std.proofs.Common.{length}
use Rattle.files_unix_fs.proofs.Entries.{IsSearchedTo}
use Rattle.files_unix_fs.proofs.directory.first_named.Given as goal

abbrev pub invariant-loop-link : goal.invariant-loop-link
invariant-loop-link l = IsSearchedTo l.name l.block l.links

abbrev pub decreases-loop-link : goal.decreases-loop-link
decreases-loop-link l = length l.links
