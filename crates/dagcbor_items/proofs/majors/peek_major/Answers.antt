use Rattle.std.proofs.Common.{arith}
use Rattle.dagcbor_heads.proofs.Refusing.{as_refusal}
use Rattle.dagcbor_items.proofs.HeadMajors.{kind_byte_refused, other_kind}
use Rattle.dagcbor_items.proofs.majors.peek_major.Goals as goal
use Rattle.dagcbor_items.proofs.majors.peek_major.Goals.{then-major-low-via-then-major-low, then-major-low-via-else-major-low+then-high-major}

pub returns-in_err-first-clause-kind : goal.returns-in_err-first-clause-kind
returns-in_err-first-clause-kind g c = as_refusal _ _ _ _ c.from_residual.ensures.1 (kind_byte_refused _ c.args.low c.args.high _ _ _ c.in_err-first.ensures.variant c.in_err-first.ensures.shown)

pub returns-then-major-low-clause-kind : goal.returns-then-major-low-clause-kind
returns-then-major-low-clause-kind g c =
    let told = c.mismatch.ensures in
    let shown = c.in_ok-first.ensures.shown in
    rw told.1 (other_kind g.row.R-Error.Denot _ c.args.low c.args.high told.0 told.2
    shown.starts shown.same
    (λ a b. elim c.then-major-low.branch [
      | then-major-low-via-then-major-low w ↦ omega (arith, a, w.if-major-low.true)
      | then-major-low-via-else-major-low+then-high-major w ↦ omega (arith, b, w.if-high-major.true)
    ]))
