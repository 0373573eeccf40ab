use Rattle.std.proofs.Common.{[], ◌∷◌, false, true, ap}
use Rattle.dagcbor_heads.proofs.Refusing.{as_refusal}
use Rattle.dagcbor_items.proofs.SimpleValues.{bool_byte_refused, bool_taken}
use Rattle.dagcbor_items.proofs.PartRefusals.{end_byte}
use Rattle.dagcbor_items.proofs.simple.pull_bool.Goals as goal

pub returns-in_err-found-clause-value : goal.returns-in_err-found-clause-value
returns-in_err-found-clause-value g c = as_refusal _ _ _ _ c.from_residual.ensures.1 (bool_byte_refused _ _ _ c.in_err-found.ensures.variant c.in_err-found.ensures.taken)

pub returns-in-244-clause-value : goal.returns-in-244-clause-value
returns-in-244-clause-value g c = bool_taken false (ap (λ x. x ∷ []) c.in-244.is) c.in_ok-found.ensures.taken

pub returns-in-245-clause-value : goal.returns-in-245-clause-value
returns-in-245-clause-value g c = bool_taken true (ap (λ x. x ∷ []) c.in-245.is) c.in_ok-found.ensures.taken

pub returns-in_err-found-clause-looked : goal.returns-in_err-found-clause-looked
returns-in_err-found-clause-looked g c = as_refusal _ _ _ _ c.from_residual.ensures.1 c.in_err-found.ensures.looked

pub returns-in_err-found-clause-variant : goal.returns-in_err-found-clause-variant
returns-in_err-found-clause-variant g c = as_refusal _ _ _ _ c.from_residual.ensures.1 (end_byte _ _ c.in_err-found.ensures.variant)
