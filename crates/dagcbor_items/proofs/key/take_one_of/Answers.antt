use Rattle.dagcbor_items.proofs.Lent.{known_key_as}
use Rattle.dagcbor_items.proofs.key.take_one_of.Goals as goal

pub returns-then-take_name_at_hand : goal.returns-then-take_name_at_hand
returns-then-take_name_at_hand g c = known_key_as c.loop-name.invariant c.if-take_name_at_hand.ensures
