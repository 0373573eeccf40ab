use Rattle.std.proofs.Common.{IfSome}
use Rattle.program_inspect.proofs.Fronts.{TookSome}
use Rattle.program_inspect.proofs.front.read_front.Given as goal

abbrev pub invariant-loop-place : goal.invariant-loop-place
invariant-loop-place g l = IfSome (g.R.Read.remaining l.initial.input) (λ b. TookSome l._place b l.front.items (g.R.Read.remaining l.input))
