use Rattle.std.proofs.Common.{refl, arith}
use Rattle.ipld_tree.specs.Cid.{cid_bytes}
use Rattle.ipld_tree.specs.Tree.{link}
use Rattle.dagcbor_items.proofs.Lent.{at_hand_looked, front_at_hand, front_within, link_at_front}
use Rattle.dagcbor_items.proofs.link.take_link.Goals as goal

pub returns-clause-taken : goal.returns-clause-taken
returns-clause-taken g c =
    let cid = cid_bytes c.in_ok-cid.cid in
    let at_front = link_at_front c.in_ok-cid.cid c.in_ok-payload.ensures.1 c.in_ok-payload.ensures.2 c.in_ok-cid.ensures in
    front_at_hand (link cid) cid c.at_hand-front.ensures at_front refl (omega (arith, front_within (link cid) at_front)) c.if-not-take_at_hand.ensures

pub returns-clause-looked : goal.returns-clause-looked
returns-clause-looked g c = at_hand_looked c.if-not-take_at_hand.ensures
