use Rattle.std.proofs.Common.{arith, []}
use Rattle.ipld_tree.proofs.Cids.{varint_length}
use Rattle.ipld_tree.proofs.Varint.{all_left, one_left_less, room_left}
use Rattle.files_car.proofs.push.varint_of.Goals as goal

pub loop-rest-init : goal.loop-rest-init
loop-rest-init c = rw c.new-groups.ensures (all_left [] _ c.ranges.number.fits)

pub loop-rest-preserved : goal.loop-rest-preserved
loop-rest-preserved c = rw c.push.ensures.items (one_left_less c.loop-rest.invariant c.loop-rest-test.true)

pub push-requires : goal.push-requires
push-requires c = omega (arith, room_left c.loop-rest.invariant, varint_length c.args.number)

pub push-requires-2 : goal.push-requires-2
push-requires-2 c = omega (arith, room_left c.loop-rest.invariant, varint_length c.args.number)
