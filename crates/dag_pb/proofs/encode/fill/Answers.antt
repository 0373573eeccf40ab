use Rattle.std.proofs.Common.{option_map, arith}
use Rattle.dag_pb.proofs.Placing.{item_room, item_put, data_room, all_put}
use Rattle.dag_pb.proofs.encode.fill.Goals as goal

pub put_link-at-requires : goal.put_link-at-requires
put_link-at-requires c = item_room c.args.links.now c.loop-link.link-index c.link-item.result (option_map (λ b. b.now) c.args.«data») c.loop-link.at c.args.out.now c.loop-link.out c.link-item.is (omega arith) c.requires c.loop-link.invariant.place c.loop-link.invariant.stands

pub loop-link-preserved : goal.loop-link-preserved
loop-link-preserved c =
    let k = item_put c.args.links.now c.loop-link.link-index c.link-item.result (option_map (λ b. b.now) c.args.«data») c.loop-link.at c.put_link-at.result c.args.out.now c.loop-link.out c.put_link-at.new.out c.link-item.is (omega arith) c.requires c.loop-link.invariant.place c.loop-link.invariant.stands c.put_link-at.ensures in
    record { place = k.0; stands = k.1 }

pub put_data-requires : goal.put_data-requires
put_data-requires c = data_room c.args.links.now c.loop-link.link-index (option_map (λ b. b.now) c.args.«data») c.loop-link.at c.args.out.now c.loop-link.out c.requires c.loop-link.invariant.place c.loop-link.invariant.stands

pub returns : goal.returns
returns c = all_put c.args.links.now c.loop-link.link-index (option_map (λ b. b.now) c.args.«data») c.loop-link.at c.put_data.result c.args.out.now c.loop-link.out c.put_data.new.out (omega arith) c.requires c.loop-link.invariant.place c.loop-link.invariant.stands c.put_data.ensures
