use Rattle.std.proofs.Common.{◌≡◌, ◌+◌, ◌≤◌, length}
use Rattle.files_index.specs.Index.{runs}
use Rattle.files_index.specs.Keys.{key_of}
use Rattle.files_index.proofs.run.count_runs.Given as goal

abbrev pub invariant-loop-front : goal.invariant-loop-front
invariant-loop-front l = (l.count + length (runs (key_of l.key) l.rest) ≡ length (runs (key_of l.key) l.entries))
    × (l.count + length l.rest ≤ length l.entries)

abbrev pub decreases-loop-front : goal.decreases-loop-front
decreases-loop-front l = length l.rest
