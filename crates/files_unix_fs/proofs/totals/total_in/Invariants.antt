use Rattle.std.proofs.Common.{◌≡◌, ◌+◌, ◌^◌, ◌<◌, length, sum}
use Rattle.files_unix_fs.specs.UnixFs.{sizes_of}
use Rattle.files_unix_fs.proofs.totals.total_in.Given as goal

abbrev pub invariant-loop-size : goal.invariant-loop-size
invariant-loop-size l = (l.total + sum (sizes_of l.rest) ≡ l.content + sum (sizes_of l.sizes)) × (l.total < 2 ^ 64)

abbrev pub decreases-loop-size : goal.decreases-loop-size
decreases-loop-size l = length l.rest
