use Rattle.std.proofs.Common.{◌-◌, ◌+◌, ◌≡◌, arith, sym, ◌∙◌}
use Rattle.std.proofs.lemmas.List.{length-map}
use Rattle.dagcbor_write.proofs.Spans.{same_bytes}
use Rattle.dagcbor_write.specs.Spans.{entry_at}
use Rattle.dagcbor_write.proofs.collect.gathered.keys_differ.Goals as goal

pub returns-then-eq : goal.returns-then-eq
returns-then-eq c =
    let at : c.loop-i.i - 1 + 1 ≡ c.loop-i.i = omega arith in
    (c.loop-i.i - 1, omega (arith, length-map c.args.spans.now (entry_at c.args.bytes.now)), λ d. rw at (sym (c.entry_key.ensures d) ∙ same_bytes c.entry_key.result.now c.entry_key-in-loop-i.result.now (sym c.eq.ensures ∙ c.if-eq.true) ∙ c.entry_key-in-loop-i.ensures d))
