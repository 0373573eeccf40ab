use Rattle.files_car.proofs.Starting.{IsSkipping}
use Rattle.files_car.proofs.pull.skip_pieces.Given as goal

abbrev pub invariant-loop-more : goal.invariant-loop-more
invariant-loop-more g l = IsSkipping l.fn.count l.more (g.R.Read.reading l.initial.reader) (g.R.Read.reading l.reader)

abbrev pub decreases-loop-more : goal.decreases-loop-more
decreases-loop-more g l = l.more
