use Rattle.dagcbor_heads.proofs.Taking.{GatheredSome}
use Rattle.dagcbor_heads.proofs.pull.pull_short_payload.Given as goal

abbrev pub invariant-loop-left : goal.invariant-loop-left
invariant-loop-left g l = GatheredSome l.n l.left (g.R.Read.reading l.initial.reader) l.payload.items (g.R.Read.reading l.reader)

abbrev pub decreases-loop-left : goal.decreases-loop-left
decreases-loop-left g l = l.left
