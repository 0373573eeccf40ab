use Rattle.ipld_paths.proofs.Entries.{KeysPassed}
use Rattle.ipld_paths.proofs.parts.value_of.Given as goal

abbrev pub invariant-loop-more : goal.invariant-loop-more
invariant-loop-more l = KeysPassed l.bytes l.count l.more l.key l.rest

abbrev pub decreases-loop-more : goal.decreases-loop-more
decreases-loop-more l = l.more
