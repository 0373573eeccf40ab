use Rattle.std.proofs.Common.{◌≡◌, false, arith}
use Rattle.dagcbor_items.proofs.Leaves.{unsupported_refused}
use Rattle.dagcbor_items.proofs.Walking.{simple_taken}
use Rattle.dagcbor_items.proofs.walk.skip_simple.Goals as goal
use Rattle.dagcbor_items.proofs.walk.skip_simple.Goals.{then-first-lt244-via-then-first-lt244, then-first-lt244-via-else-first-lt244+then-first-gt246}

pub returns-then-first-lt244-clause-item : goal.returns-then-first-lt244-clause-item
returns-then-first-lt244-clause-item g c =
    let told = c.unsupported.ensures in
    rw told.1 (unsupported_refused g.row.R-Error.Denot ((g.R.Read.reading c.args.reader.now).lends ≡ false) 0 _ told.0 c.args.first told.2 c.requires.starts c.requires.major c.requires.definite
    (λ a b. elim c.then-first-lt244.branch [
      | then-first-lt244-via-then-first-lt244 w ↦ omega (arith, a, w.if-first-lt244.true)
      | then-first-lt244-via-else-first-lt244+then-first-gt246 w ↦ omega (arith, b, w.if-first-gt246.true)
    ]))

pub returns-clause-item : goal.returns-clause-item
returns-clause-item g c = simple_taken c.args.first _ c.requires.starts (omega (arith, c.if-first-lt244.false)) (omega (arith, c.if-first-gt246.false)) c.in_ok-pull_one.ensures.taken
