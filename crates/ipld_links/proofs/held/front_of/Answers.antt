use Rattle.std.proofs.Common.{arith, ap, ◌∙◌}
use Rattle.std.specs.Int.{w64, from_le_bytes}
use Rattle.ipld_links.specs.Held.{front}
use Rattle.ipld_links.proofs.Keeping.{front_told, front_short}
use Rattle.ipld_links.proofs.held.front_of.Goals as goal

pub returns-in-Some : goal.returns-in-Some
returns-in-Some c = c.from_le_bytes.ensures ∙ ap (λ b. from_le_bytes w64 b) c.in-Some.ensures.cases.0 ∙ front_told c.digest.result.now (omega (arith, c.in-Some.ensures.cases.2)) ∙ ap front c.digest.ensures

pub returns-in-None : goal.returns-in-None
returns-in-None c = front_short c.digest.result.now c.in-None.ensures.cases ∙ ap front c.digest.ensures
