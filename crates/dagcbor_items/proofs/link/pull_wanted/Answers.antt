use Rattle.dagcbor_heads.proofs.Refusing.{as_refusal}
use Rattle.dagcbor_items.proofs.Links.{wanted_refused}
use Rattle.dagcbor_items.proofs.link.pull_wanted.Goals as goal

pub returns-in_err-found-clause-wanted : goal.returns-in_err-found-clause-wanted
returns-in_err-found-clause-wanted g c = as_refusal _ _ _ _ c.from_residual.ensures.1 (wanted_refused _ _ _ _ _ _ c.in_err-found.ensures.variant c.in_err-found.ensures.taken)
