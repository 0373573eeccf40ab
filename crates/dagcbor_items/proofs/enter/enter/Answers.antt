use Rattle.std.proofs.Common.{ap, refl}
use Rattle.dagcbor_heads.proofs.Refusing.{as_refusal}
use Rattle.dagcbor_heads.specs.Reading.{Reading}
use Rattle.dagcbor_items.proofs.Looks.{head_taken, stepped_left, looks_stepped}
use Rattle.dagcbor_items.proofs.Steps.{stepped_refused}
use Rattle.dagcbor_items.proofs.Entering.{no_step_inside, parts_head_refused, enters_parts, parts_left, parts_unread}
use Rattle.dagcbor_items.proofs.enter.enter.Goals as goal

pub returns-in_err-spend_step-clause-count : goal.returns-in_err-spend_step-clause-count
returns-in_err-spend_step-clause-count g c = as_refusal _ _ _ _ c.from_residual.ensures.1 (no_step_inside _ c.requires c.in_err-spend_step.ensures)

pub returns-in_err-count-clause-count : goal.returns-in_err-count-clause-count
returns-in_err-count-clause-count g c =
    as_refusal _ _ _ _ c.from_residual-in_err-count.ensures.1 (stepped_refused _ 1 _ c.in_ok-spend_step.ensures (λ x. x) (parts_head_refused _ _ c.requires c.in_ok-spend_step.ensures c.in_err-count.ensures.variant c.in_err-count.ensures.taken))

pub returns-clause-count : goal.returns-clause-count
returns-clause-count g c = enters_parts c.in_ok-spend_step.ensures c.in_ok-count.ensures.taken.2

pub returns-in_err-spend_step-clause-looked : goal.returns-in_err-spend_step-clause-looked
returns-in_err-spend_step-clause-looked g c = as_refusal _ _ _ _ c.from_residual.ensures.1 (parts_unread c.requires (ap (λ (r : Reading). r.looked) c.in_err-spend_step.ensures.same))

pub returns-in_err-count-clause-looked : goal.returns-in_err-count-clause-looked
returns-in_err-count-clause-looked g c =
    as_refusal _ _ _ _ c.from_residual-in_err-count.ensures.1 (parts_left c.requires (stepped_left _ c.in_ok-spend_step.ensures.is c.in_err-count.ensures.looked))

pub returns-clause-looked : goal.returns-clause-looked
returns-clause-looked g c = looks_stepped _ c.in_ok-spend_step.ensures.is (head_taken c.in_ok-count.ensures.looked c.in_ok-count.ensures.taken.2) refl
