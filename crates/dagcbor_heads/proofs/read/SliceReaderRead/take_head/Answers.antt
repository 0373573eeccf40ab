use Rattle.std.proofs.Common.{length, rules, refl, arith, ap, length-append}
use Rattle.dagcbor_core.specs.Head.{head}
use Rattle.dagcbor_heads.proofs.Slices.{slice_head, slice_looked, slice_at_most}
use Rattle.dagcbor_heads.proofs.read.SliceReaderRead.take_head.Goals as goal

pub returns-clause-taken : goal.returns-clause-taken
returns-clause-taken c = slice_head (search rules) refl (search rules) c.in_ok-first.ensures.cases.0 c.in_ok-major.ensures

pub returns-clause-looked : goal.returns-clause-looked
returns-clause-looked c =
    let h = c.in_ok-major.ensures in
    let front = head c.in_ok-major.major c.in_ok-major.argument in
    slice_looked front (search rules) refl h.2 (omega (arith, c.add.ensures, ap length h.2, length-append front c.in_ok-major.rest.now, ap (λ r. r.looked) c.self.view_is)) refl

pub returns-clause-at_most : goal.returns-clause-at_most
returns-clause-at_most c =
    let h = c.in_ok-major.ensures in
    let front = head c.in_ok-major.major c.in_ok-major.argument in
    slice_at_most c.args.self.now.looked c.add.new.self.count c.in_ok-major.rest.now h (omega (arith, c.add.ensures, ap length h.2, length-append front c.in_ok-major.rest.now, ap (λ r. r.looked) c.self.view_is))
