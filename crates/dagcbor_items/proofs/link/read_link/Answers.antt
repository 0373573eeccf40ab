use Rattle.dagcbor_heads.proofs.Refusing.{as_refusal}
use Rattle.dagcbor_items.proofs.Fronts.{definite}
use Rattle.dagcbor_items.proofs.Links.{link_refused}
use Rattle.dagcbor_items.proofs.link.read_link.Goals as goal

pub returns-in_err-pull_link-clause-leaf : goal.returns-in_err-pull_link-clause-leaf
returns-in_err-pull_link-clause-leaf g c = as_refusal _ _ _ _ c.from_residual.ensures.1 (link_refused _ _ _ c.requires c.in_err-pull_link.ensures.link)

pub returns-in_err-pull_link-clause-looked : goal.returns-in_err-pull_link-clause-looked
returns-in_err-pull_link-clause-looked g c = as_refusal _ _ _ _ c.from_residual.ensures.1 (c.in_err-pull_link.ensures.peeked (definite (g.R.Read.reading c.args.reader.now) c.requires))
