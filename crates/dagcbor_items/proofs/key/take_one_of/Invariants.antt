use Rattle.std.proofs.Common.{◌≡◌}
use Rattle.dagcbor_items.proofs.key.take_one_of.Given as goal

abbrev pub invariant-loop-name : goal.invariant-loop-name
invariant-loop-name g l = g.R.Read.reading l.reader ≡ g.R.Read.reading l.fn.reader
