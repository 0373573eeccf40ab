use Rattle.std.proofs.Common.{option_map, flat_map}
use Rattle.lent_memory.proofs.Putting.{room_after}
use Rattle.dag_pb.specs.Spelling.{data_field_bytes, link_spelling}
use Rattle.dag_pb_model.proofs.NodeFilling.{one_row}
use Rattle.dag_pb_model.proofs.Written.{room_for_links, node_filled, node_room}
use Rattle.dag_pb_model.proofs.fill_node.fill_node.Goals as goal

pub fill_links-at-requires : goal.fill_links-at-requires
fill_links-at-requires c = room_for_links c.args.links.now c.args.out.now (option_map (λ b. b.now) c.args.«data») c.requires

pub put_data-requires : goal.put_data-requires
put_data-requires c =
    let r = c.requires in
    room_after 0 c.fill_links-at.result (flat_map link_spelling r.0) (data_field_bytes (option_map (λ b. b.now) c.args.«data»)) c.args.out.now c.fill_links-at.new.out (node_room r.0 (option_map (λ b. b.now) c.args.«data») c.args.out.now r.3) (c.fill_links-at.ensures r.0 r.1 r.2)

pub returns : goal.returns
returns c ls h s =
    let r = c.requires in
    let inner = option_map (λ b. b.now) c.args.«data» in
    rw (one_row c.args.links.now ls r.0 h r.1 s r.2) (node_filled r.0 inner c.fill_links-at.result c.put_data.result c.args.out.now c.fill_links-at.new.out c.put_data.new.out r.3 (c.fill_links-at.ensures r.0 r.1 r.2) c.put_data.ensures)
