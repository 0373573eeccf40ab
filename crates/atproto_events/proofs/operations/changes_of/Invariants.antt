use Rattle.atproto_events.proofs.CommitSteps.{Taking}
use Rattle.atproto_events.proofs.operations.changes_of.Given as goal

abbrev pub invariant-loop-op : goal.invariant-loop-op
invariant-loop-op l = Taking l.ops l.op-index l.done.items
