use Rattle.files_car.proofs.HeaderShape.{no_list_there, no_head_there, list_judged}
use Rattle.files_car.proofs.header.after_link_list.Goals as goal

pub returns-in_err-major : goal.returns-in_err-major
returns-in_err-major c = rw c.from_residual.ensures (no_head_there _ c.in_err-major.ensures)

pub returns-then-major-ne4 : goal.returns-then-major-ne4
returns-then-major-ne4 c = no_list_there _ _ _ c.in_ok-major.following.now c.in_ok-major.ensures c.if-major-ne4.true

pub returns : goal.returns
returns c = list_judged (λ r. r.now) _ _ c.in_ok-major.following.now c.after_links.result (rw c.if-major-ne4.false at c.in_ok-major.ensures) c.after_links.ensures
