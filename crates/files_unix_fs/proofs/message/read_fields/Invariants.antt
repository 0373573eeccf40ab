use Rattle.std.proofs.Common.{length}
use Rattle.files_unix_fs.specs.Held.{held_said}
use Rattle.files_unix_fs.proofs.Steps.{IsReadTo}
use Rattle.files_unix_fs.proofs.message.read_fields.Given as goal

abbrev pub invariant-loop-rest : goal.invariant-loop-rest
invariant-loop-rest l = IsReadTo l.message (held_said l.said) l.rest

abbrev pub decreases-loop-rest : goal.decreases-loop-rest
decreases-loop-rest l = length l.rest
