use Rattle.dagcbor_decode.proofs.Fronts.{no_front}
use Rattle.dagcbor_decode.proofs.Absent.{no_link_head, link_found}
use Rattle.dagcbor_decode.proofs.front.after_link.Goals as goal

pub returns-in_err-major : goal.returns-in_err-major
returns-in_err-major c = rw c.from_residual.ensures (λ k. no_front _ _ _ c.in_err-major.ensures k.2)

pub returns-then-major-ne6 : goal.returns-then-major-ne6
returns-then-major-ne6 c = no_link_head _ _ _ c.in_ok-major.more.now c.in_ok-major.ensures c.if-major-ne6.true

pub returns : goal.returns
returns c = link_found (λ r. r.now) _ _ c.in_ok-major.more.now c.after_tag.result (rw c.if-major-ne6.false at c.in_ok-major.ensures) c.after_tag.ensures
