use Rattle.std.proofs.Common.{◌≡◌, [], drop}
use Rattle.dagcbor_write.specs.Rows.{names_rise}
use Rattle.dagcbor_write.proofs.places.names_rise.Given as goal

abbrev pub invariant-loop-place : goal.invariant-loop-place
invariant-loop-place l = names_rise [] l.places ≡ names_rise l.last (drop l.place-index l.places)
