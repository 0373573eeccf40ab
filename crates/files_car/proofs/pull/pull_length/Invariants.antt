use Rattle.files_car.proofs.Pulling.{IsInVarint}
use Rattle.files_car.proofs.pull.pull_length.Given as goal

abbrev pub invariant-loop-place : goal.invariant-loop-place
invariant-loop-place g l = IsInVarint l.groups.items l._place l.initial.left (g.R.Read.reading l.initial.reader) l.left (g.R.Read.reading l.reader)
