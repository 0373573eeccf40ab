use Rattle.std.proofs.Common.{◌≡◌, List, length}
use Rattle.dagcbor_heads.specs.Inputs.{input_reading}
use Rattle.files_car.specs.Car.{Section}
use Rattle.files_car.specs.Each.{TakesEach}
use Rattle.files_car.proofs.each.each_section.Given as goal

abbrev pub invariant-loop-count : goal.invariant-loop-count
invariant-loop-count g l = (ss : List Section) × (length ss ≡ l.count)
    × TakesEach g.S.SectionSink.takes l.fn.left (input_reading g.R.Read.reading l.fn.input) l.fn.sink ss l.left (input_reading g.R.Read.reading l.input) l.sink
