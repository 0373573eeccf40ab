use Rattle.dagcbor_items.proofs.Looks.{head_taken}
use Rattle.dagcbor_items.proofs.leaf.take_integer.Goals as goal

pub returns-clause-looked : goal.returns-clause-looked
returns-clause-looked g c = head_taken c.in_ok-argument.ensures.looked c.in_ok-argument.ensures.taken
