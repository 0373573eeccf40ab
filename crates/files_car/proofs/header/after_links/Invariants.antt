use Rattle.files_car.proofs.HeaderShape.{LinksPassed}
use Rattle.files_car.proofs.header.after_links.Given as goal

abbrev pub invariant-loop-more : goal.invariant-loop-more
invariant-loop-more l = LinksPassed l.bytes l.count l.more l.rest

abbrev pub decreases-loop-more : goal.decreases-loop-more
decreases-loop-more l = l.more
