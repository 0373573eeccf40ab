use Rattle.std.proofs.Common.{length}
use Rattle.program_events.specs.Seen.{seen_in}
use Rattle.program_events.proofs.Steps.{SoFar}
use Rattle.program_events.proofs.stream.events_said.Given as goal

abbrev pub invariant-loop-rest : goal.invariant-loop-rest
invariant-loop-rest l = SoFar l.bytes l.at.number l.at.byte (seen_in l.seen) l.rest l.all.0.1 l.all.0.0.items l.all.1.items

abbrev pub decreases-loop-rest : goal.decreases-loop-rest
decreases-loop-rest l = length l.rest
