use Rattle.std.proofs.Common.{length}
use Rattle.files_unix_fs.proofs.Empties.{IsSameRest}
use Rattle.files_unix_fs.proofs.totals.has_empty_part.Given as goal

abbrev pub invariant-loop-size : goal.invariant-loop-size
invariant-loop-size l = IsSameRest l.sizes l.rest

abbrev pub decreases-loop-size : goal.decreases-loop-size
decreases-loop-size l = length l.rest
