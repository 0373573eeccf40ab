use Rattle.std.proofs.Common.{◌≡◌, false}
use Rattle.dagcbor_heads.proofs.Refusing.{as_refusal}
use Rattle.dagcbor_items.proofs.Fronts.{number_head_refused}
use Rattle.dagcbor_items.proofs.Looks.{head_taken}
use Rattle.dagcbor_items.proofs.Walking.{integer_taken}
use Rattle.dagcbor_items.proofs.walk.skip_integer.Goals as goal

pub returns-in_err-pull_head_argument-clause-item : goal.returns-in_err-pull_head_argument-clause-item
returns-in_err-pull_head_argument-clause-item g c = as_refusal _ _ _ _ c.from_residual.ensures.1 (number_head_refused ((g.R.Read.reading c.args.reader.now).lends ≡ false) _ _ _ c.args.first c.requires.starts c.requires.major c.requires.named c.in_err-pull_head_argument.ensures.variant c.in_err-pull_head_argument.ensures.taken)

pub returns-clause-item : goal.returns-clause-item
returns-clause-item g c = integer_taken c.requires.starts c.requires.major c.in_ok-pull_head_argument.ensures.taken.2

pub returns-clause-looked : goal.returns-clause-looked
returns-clause-looked g c = head_taken c.in_ok-pull_head_argument.ensures.looked c.in_ok-pull_head_argument.ensures.taken.2
