use Rattle.std.proofs.Common.{◌+◌, arith, inl, inr}
use Rattle.dagcbor_heads.proofs.Refusing.{as_refusal}
use Rattle.dagcbor_items.proofs.Integers.{natural_refused, natural_taken, no_natural}
use Rattle.dagcbor_items.proofs.numbers.pull_unsigned.Goals as goal
use Rattle.dagcbor_items.proofs.numbers.pull_unsigned.Goals.{then-major-gt0-via-then-major-gt0, then-major-gt0-via-else-major-gt0+then-argument-greatest}

pub returns-in_err-major-clause-number : goal.returns-in_err-major-clause-number
returns-in_err-major-clause-number g c = as_refusal _ _ _ _ c.from_residual.ensures.1 (natural_refused c.args.name.now (c.args.greatest + 1) _ _ _ c.in_err-major.ensures.kind)

pub returns-then-major-gt0-clause-number : goal.returns-then-major-gt0-clause-number
returns-then-major-gt0-clause-number g c =
    let told = c.out_of_range.ensures in
    rw told.1 (no_natural g.row.R-Error.Denot c.args.name.now (c.args.greatest + 1) told.0
    told.2 c.in_ok-major.ensures.kind
    (elim c.then-major-gt0.branch [
      | then-major-gt0-via-then-major-gt0 w ↦ inl w.if-major-gt0.true
      | then-major-gt0-via-else-major-gt0+then-argument-greatest w ↦
          inr (omega (arith, w.if-argument-greatest.true))
    ]))

pub returns-clause-number : goal.returns-clause-number
returns-clause-number g c =
    natural_taken (c.args.greatest + 1) c.in_ok-major.ensures.kind
    c.if-major-gt0.false (omega (arith, c.if-argument-greatest.false))
