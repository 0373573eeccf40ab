use Rattle.std.proofs.Common.{arith}
use Rattle.dagcbor_core.proofs.Splitting.{small_split, wide_split, no_head_nowhere, no_defined_head, no_whole_head, no_short_head}
use Rattle.dagcbor_core.proofs.front.split_head.Goals as goal

pub returns-then-information-lt24 : goal.returns-then-information-lt24
returns-then-information-lt24 c = small_split c.in_ok-front.front.now _ _ _ (omega arith) c.if-information-lt24.true c.from.ensures c.in_ok-front.ensures.cases.0

pub returns : goal.returns
returns c =
    wide_split c.in_ok-front.front.now _ _ _ _ _ (omega arith) (omega (arith, c.if-information-lt24.false)) (omega (arith, c.if-information-gt27.false)) c.least_argument.ensures
    (omega (arith, c.if-argument-least_argument.false)) c.in_ok-front.ensures.cases.0 c.in_ok-argument.ensures

pub returns-in_err-front : goal.returns-in_err-front
returns-in_err-front c = rw c.from_residual.ensures (no_head_nowhere _ c.in_err-front.ensures.cases)

pub returns-then-information-gt27 : goal.returns-then-information-gt27
returns-then-information-gt27 c = no_defined_head c.in_ok-front.front.now _ _ c.in_ok-front.ensures.cases.0 (omega (arith, c.if-information-gt27.true))

pub returns-in_err-argument : goal.returns-in_err-argument
returns-in_err-argument c = rw c.from_residual-in_err-argument.ensures (no_whole_head c.in_ok-front.front.now _ _ c.in_ok-front.ensures.cases.0 c.in_err-argument.ensures)

pub returns-then-argument-least_argument : goal.returns-then-argument-least_argument
returns-then-argument-least_argument c =
    no_short_head c.in_ok-front.front.now _ _ _ _ c.in_ok-front.ensures.cases.0 (omega (arith, c.if-information-lt24.false)) c.in_ok-argument.ensures (omega (arith, c.least_argument.ensures, c.if-argument-least_argument.true))
