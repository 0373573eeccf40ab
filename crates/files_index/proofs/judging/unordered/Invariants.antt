use Rattle.std.proofs.Common.{◌≡◌, ◌≤◌, take}
use Rattle.files_index.specs.Judging.{unordered}
use Rattle.files_index.proofs.judging.unordered.Given as goal

abbrev pub invariant-loop-number : goal.invariant-loop-number
invariant-loop-number l = (1 ≤ l.number) × (l.out.items ≡ unordered (take l.number l.entries))
