use Rattle.std.proofs.Common.{◌∙◌, ap, arith}
use Rattle.dagcbor_heads.specs.Reading.{Reading, SpentStep}
use Rattle.dagcbor_heads.proofs.Looking.{lent_looked}
use Rattle.dagcbor_items.proofs.Lent.{item_lent}
use Rattle.dagcbor_items.proofs.Looks.{taken_more, looks_stepped}
use Rattle.dagcbor_items.proofs.Steps.{stepped_taken}
use Rattle.dagcbor_items.proofs.payloads.SliceReaderPayloadReader.take_leaf.Goals as goal

pub returns-clause-taken : goal.returns-clause-taken
returns-clause-taken c =
    let step = rw c.if-not-step_in.false at c.step_in.ensures in
    let k = c.in-Some.ensures in
    let lent = c.in-Some-lend.ensures.lent in
    let spent : SpentStep c.args.self.now c.step_in.new.self = record { some = step.0; is_out = step.1; is = step.2 } in
    (k.0, stepped_taken 0 spent (item_lent k.0 c.in-Some-lend._leaf.now (ap (λ (r : Reading). r.left) step.2 ∙ c.rest.ensures.bytes) k.2 (omega (arith, k.3)) lent.1 (omega (arith, lent.0, k.5))) c.step_out.ensures, k.4)

pub returns-clause-looked : goal.returns-clause-looked
returns-clause-looked c took =
    let step = rw c.if-not-step_in.false at c.step_in.ensures in
    let lent = c.in-Some-lend.ensures.lent in
    looks_stepped _ step.2 (taken_more 2 (omega arith) (lent_looked lent.0 lent.1 lent.2 c.in-Some-lend.ensures.shown)) c.step_out.ensures
