use Rattle.std.proofs.Common.{length}
use Rattle.abi_calls.proofs.Putting.{PackedSoFar}
use Rattle.abi_calls.proofs.links.pack.Given as goal

abbrev pub invariant-loop-found : goal.invariant-loop-found
invariant-loop-found l = PackedSoFar l.items l.initial.packed.out.ghost_name l.initial.packed.out.now l.rest l.packed

abbrev pub decreases-loop-found : goal.decreases-loop-found
decreases-loop-found l = length l.rest
