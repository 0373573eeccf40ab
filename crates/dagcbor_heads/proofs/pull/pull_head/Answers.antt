use Rattle.std.proofs.Common.{refl, arith, sym}
use Rattle.dagcbor_core.specs.declared.error.DecodeError.TheVariants.{Unsupported, IndefiniteSize}
use Rattle.dagcbor_heads.proofs.HeadFaults.{first_refused, reserved_refused, argument_refused, too_long, small_found, wide_found}
use Rattle.dagcbor_heads.proofs.Refusing.{as_refusal}
use Rattle.dagcbor_heads.proofs.Looking.{looks_more}
use Rattle.dagcbor_heads.proofs.pull.pull_head.Goals as goal

pub returns-in_err-first-clause-taken : goal.returns-in_err-first-clause-taken
returns-in_err-first-clause-taken g c = as_refusal _ _ _ _ c.from_residual.ensures.1 (first_refused _ _ _ c.in_err-first.ensures.taken)

pub returns-then-information-lt24-clause-taken : goal.returns-then-information-lt24-clause-taken
returns-then-information-lt24-clause-taken g c = rw c.from.ensures (small_found (omega arith) c.if-information-lt24.true c.in_ok-first.ensures.taken)

pub returns-then-information-eq31-clause-taken : goal.returns-then-information-eq31-clause-taken
returns-then-information-eq31-clause-taken g c = reserved_refused g.row.R-Error.Denot IndefiniteSize c.in_ok-first.ensures.taken (omega arith) (λ more. c.if-information-eq31.true)

pub returns-then-information-gt27-clause-taken : goal.returns-then-information-gt27-clause-taken
returns-then-information-gt27-clause-taken g c =
    let told = c.unsupported.ensures in
    rw told.1 (reserved_refused g.row.R-Error.Denot (Unsupported told.0 c.in_ok-first.first) c.in_ok-first.ensures.taken (omega arith) (λ more. (refl, (omega arith), (omega arith))))

pub returns-in_err-argument-clause-taken : goal.returns-in_err-argument-clause-taken
returns-in_err-argument-clause-taken g c =
    as_refusal _ _ _ _ c.from_residual-in_err-argument.ensures.1 (argument_refused _ _ c.argument_width.ensures.value c.in_ok-first.ensures.taken c.in_err-argument.ensures.taken)

pub returns-then-argument-least_argument-clause-taken :
    goal.returns-then-argument-least_argument-clause-taken
returns-then-argument-least_argument-clause-taken g c =
    let least = rw (sym c.argument_width.ensures.value) at c.least_argument.ensures in
    too_long g.row.R-Error.Denot c.new.result c.argument_width.ensures.value (omega arith) c.in_ok-argument.ensures.taken.0 (omega (arith, least))
    c.in_ok-first.ensures.taken c.in_ok-argument.ensures.taken.1

pub returns-clause-taken : goal.returns-clause-taken
returns-clause-taken g c =
    let least = rw (sym c.argument_width.ensures.value) at c.least_argument.ensures in
    wide_found (omega arith) c.argument_width.ensures.value (omega arith) (omega arith) (omega arith) c.in_ok-argument.ensures.taken.0 (omega (arith, least))
    c.in_ok-first.ensures.taken c.in_ok-argument.ensures.taken.1

pub returns-clause-looked : goal.returns-clause-looked
returns-clause-looked g c = looks_more c.in_ok-first.ensures.looked c.in_ok-argument.ensures.looked
