use Rattle.dagcbor_heads.proofs.Refusing.{as_refusal}
use Rattle.dagcbor_heads.proofs.Looking.{some_then, some_both, some_left}
use Rattle.dagcbor_heads.proofs.pull.gather.Goals as goal

pub returns-in_err-count-clause-looked : goal.returns-in_err-count-clause-looked
returns-in_err-count-clause-looked g c = as_refusal _ _ _ _ c.from_residual.ensures.1 (some_then c.loop-left.invariant.looked c.in_err-count.ensures.looked)

pub returns-then-count-eq0-clause-looked : goal.returns-then-count-eq0-clause-looked
returns-then-count-eq0-clause-looked g c = some_left (some_both c.loop-left.invariant.looked c.in_ok-count.ensures.looked)
