use Rattle.std.proofs.Common.{arith}
use Rattle.ipld_tree.proofs.Varint.{one_left_less, room_left}
use Rattle.ipld_tree.proofs.cid.push_varint.Goals as goal

pub loop-rest-preserved : goal.loop-rest-preserved
loop-rest-preserved c = rw c.push.ensures.items (one_left_less c.loop-rest.invariant c.loop-rest-test.true)

pub push-requires : goal.push-requires
push-requires c = omega (arith, room_left c.loop-rest.invariant, c.requires)

pub push-requires-2 : goal.push-requires-2
push-requires-2 c = omega (arith, room_left c.loop-rest.invariant, c.requires)
