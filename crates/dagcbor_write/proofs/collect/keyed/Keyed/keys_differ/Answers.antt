use Rattle.std.proofs.Common.{◌-◌, ◌+◌, ◌≡◌, arith, sym, ◌∙◌}
use Rattle.dagcbor_write.proofs.Spans.{same_bytes}
use Rattle.dagcbor_write.proofs.collect.keyed.Keyed.keys_differ.Goals as goal

pub returns-then-eq : goal.returns-then-eq
returns-then-eq g c =
    let at : c.loop-i.i - 1 + 1 ≡ c.loop-i.i = omega arith in
    (c.loop-i.i - 1, omega arith, λ d. rw at (sym (c.key.ensures d) ∙ same_bytes c.key.result.now c.key-in-loop-i.result.now (sym c.eq.ensures ∙ c.if-eq.true) ∙ c.key-in-loop-i.ensures d))
