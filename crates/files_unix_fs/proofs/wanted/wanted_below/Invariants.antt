use Rattle.std.proofs.Common.{length, map}
use Rattle.files_unix_fs.specs.Reading.{asked}
use Rattle.files_unix_fs.proofs.Pairing.{IsPairedTo}
use Rattle.files_unix_fs.proofs.wanted.wanted_below.Given as goal

abbrev pub invariant-loop-link : goal.invariant-loop-link
invariant-loop-link l = IsPairedTo l.depth l.block l.sizes (map asked l.wanted.items) l.links l.rest

abbrev pub decreases-loop-link : goal.decreases-loop-link
decreases-loop-link l = length l.links
