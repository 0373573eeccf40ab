use Rattle.dagcbor_heads.proofs.Refusing.{as_refusal}
use Rattle.dagcbor_items.proofs.Fronts.{number_head_refused}
use Rattle.dagcbor_items.proofs.Looks.{head_taken}
use Rattle.dagcbor_items.proofs.leaf.read_integer.Goals as goal

pub returns-in_err-argument-clause-leaf : goal.returns-in_err-argument-clause-leaf
returns-in_err-argument-clause-leaf g c = as_refusal _ _ _ _ c.from_residual.ensures.1 (number_head_refused ⊥ _ _ _ c.args.first c.requires.starts c.requires.major c.requires.named c.in_err-argument.ensures.variant c.in_err-argument.ensures.taken)

pub returns-clause-looked : goal.returns-clause-looked
returns-clause-looked g c = head_taken c.in_ok-argument.ensures.looked c.in_ok-argument.ensures.taken
