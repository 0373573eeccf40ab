use Rattle.std.proofs.Common.{◌≡◌, ◌+◌}
use Rattle.dagcbor_heads.specs.Reading.{with_steps}
use Rattle.dagcbor_read.proofs.access.accessor.give_back.Given as goal

abbrev pub invariant-loop-step : goal.invariant-loop-step
invariant-loop-step g l = g.R.Read.reading l.reader ≡ with_steps ((g.R.Read.reading l.fn.reader).steps + l._step) (g.R.Read.reading l.fn.reader)
