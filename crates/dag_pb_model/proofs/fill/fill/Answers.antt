use Rattle.std.proofs.Common.{◌≡◌, ◌+◌, ◌≤◌, length, codes, option_map, sym, ap, ◌∙◌, subst}
use Rattle.dagcbor_core.specs.Head.{head}
use Rattle.ipld_tree.specs.Spelling.{spelling, text_spelling}
use Rattle.dag_pb.proofs.Orders.{node_links_in}
use Rattle.dag_pb.proofs.Spelled.{node_unique}
use Rattle.lent_memory.specs.Puts.{PutsAt, with_front}
use Rattle.lent_memory.proofs.Putting.{room_after, room_before, all_put}
use Rattle.dag_pb_model.specs.Model.{node_model}
use Rattle.dag_pb_model.specs.Forms.{data_form, links_form}
use Rattle.dag_pb_model.proofs.Measuring.{measured_form}
use Rattle.dag_pb_model.proofs.Filling.{five_put, front_room, fourth_room}
use Rattle.dag_pb_model.proofs.fill.fill.Goals as goal

pub put_head-links-requires-clause-room : goal.put_head-links-requires-clause-room
put_head-links-requires-clause-room c =
    let m = c.args.measure.now in
    let (parts, is, found, room) = c.requires in
    let whole = front_room _ _ c.args.out.now (measured_form m parts c.entries.result found c.entries.ensures) room in
    room_before c.put_string-count.result (head 4 m.links) (links_form parts.links) c.put_string-count.new.out
    (fourth_room 0 c.put_head-inner.result c.put_data-key.result c.put_string-count.result (head 5 c.entries.result) (data_form (option_map (λ s. s.now) m.«data»)) (text_spelling (codes "Links")) (head 4 m.links) (links_form parts.links) c.args.out.now c.put_head-inner.new.out c.put_data-key.new.out c.put_string-count.new.out
    whole c.put_head-inner.ensures c.put_data-key.ensures c.put_string-count.ensures)

pub put_links-requires : goal.put_links-requires
put_links-requires c =
    let m = c.args.measure.now in
    let (parts, (row, h, are), found, room) = c.requires in
    let whole = front_room _ _ c.args.out.now (measured_form m parts c.entries.result found c.entries.ensures) room in (
      row,
      h,
      subst (λ ls. c.put_head-links.result + length (links_form ls) ≤ length c.put_head-links.new.out) (sym (node_links_in row parts are))
          (room_after c.put_string-count.result c.put_head-links.result (head 4 m.links) (links_form parts.links) c.put_string-count.new.out c.put_head-links.new.out
          (fourth_room 0 c.put_head-inner.result c.put_data-key.result c.put_string-count.result (head 5 c.entries.result) (data_form (option_map (λ s. s.now) m.«data»)) (text_spelling (codes "Links")) (head 4 m.links) (links_form parts.links) c.args.out.now c.put_head-inner.new.out c.put_data-key.new.out c.put_string-count.new.out
          whole c.put_head-inner.ensures c.put_data-key.ensures c.put_string-count.ensures) c.put_head-links.ensures),
    )

pub returns : goal.returns
returns c other k =
    let m = c.args.measure.now in
    let (parts, (row, h, are), found, room) = c.requires in
    let form = measured_form m parts c.entries.result found c.entries.ensures in
    let whole = front_room _ _ c.args.out.now form room in
    let links = subst (λ ls. PutsAt (links_form ls) c.put_head-links.result c.put_head-links.new.out c.put_links.new.out c.put_links.result) (node_links_in row parts are) (c.put_links.ensures row h) in
    subst (λ s. c.put_links.new.out ≡ with_front s c.args.out.now) (sym form ∙ ap (λ p. spelling (node_model p)) (node_unique c.args.node.now parts other (row, h, are) k))
    (all_put _ c.args.out.now c.put_links.new.out c.put_links.result
    (five_put 0 c.put_head-inner.result c.put_data-key.result c.put_string-count.result c.put_head-links.result c.put_links.result (head 5 c.entries.result) (data_form (option_map (λ s. s.now) m.«data»)) (text_spelling (codes "Links")) (head 4 m.links) (links_form parts.links) c.args.out.now c.put_head-inner.new.out c.put_data-key.new.out c.put_string-count.new.out c.put_head-links.new.out c.put_links.new.out
    whole c.put_head-inner.ensures c.put_data-key.ensures c.put_string-count.ensures c.put_head-links.ensures links))
