use Rattle.std.proofs.Common.{arith}
use Rattle.dagcbor_items.proofs.HeadMajors.{other_kind}
use Rattle.dagcbor_items.proofs.majors.pull_major.Goals as goal
use Rattle.dagcbor_items.proofs.majors.pull_major.Goals.{then-major-low-via-then-major-low, then-major-low-via-else-major-low+then-high-major}

pub returns-then-major-low-clause-kind : goal.returns-then-major-low-clause-kind
returns-then-major-low-clause-kind g c =
    let told = c.mismatch.ensures in
    let head = c.in-Some.ensures.taken in
    rw told.1 (other_kind g.row.R-Error.Denot _ c.args.low c.args.high told.0 told.2
    head.starts head.takes.same
    (λ a b. elim c.then-major-low.branch [
      | then-major-low-via-then-major-low w ↦
          omega (arith, a, w.if-major-low.true, head.major_of_first)
      | then-major-low-via-else-major-low+then-high-major w ↦
          omega (arith, b, w.if-high-major.true, head.major_of_first)
    ]))
