use Rattle.std.proofs.Common.{length}
use Rattle.abi_calls.proofs.PackedFields.{FieldsSoFar}
use Rattle.abi_calls.proofs.links.pack_fields.Given as goal

abbrev pub invariant-loop-link : goal.invariant-loop-link
invariant-loop-link l = FieldsSoFar l.fields l.initial.packed.out.ghost_name l.initial.packed.out.now l.rest l.packed

abbrev pub decreases-loop-link : goal.decreases-loop-link
decreases-loop-link l = length l.rest
