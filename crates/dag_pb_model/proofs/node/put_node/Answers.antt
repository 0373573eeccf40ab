use Rattle.std.proofs.Common.{option_map, arith, refl}
use Rattle.dag_pb_model.proofs.Written.{unsorted_node, node_put, no_room, room_for_node}
use Rattle.dag_pb_model.proofs.node.put_node.Goals as goal

pub returns-then-not-node : goal.returns-then-not-node
returns-then-not-node c = (unsorted_node c.args.model.now (option_map (λ b. b.now) c.in-Some.node.«data») c.in-Some.node.links.now c.in-Some.node.size c.in-Some.node.sorted c.in-Some.ensures c.if-not-node.true, refl)

pub returns-then-node-out : goal.returns-then-node-out
returns-then-node-out c =
    let inner = option_map (λ b. b.now) c.in-Some.node.«data» in
    node_put c.args.model.now inner c.in-Some.node.links.now c.in-Some.node.size c.in-Some.node.sorted c.args.out.now c.args.out.now c.in-Some.ensures c.if-not-node.false
    (no_room c.args.model.now inner c.in-Some.node.links.now c.in-Some.node.size c.in-Some.node.sorted c.args.out.now c.in-Some.ensures (omega (arith, c.if-node-out.true)))

pub fill_node-requires : goal.fill_node-requires
fill_node-requires c = room_for_node c.args.model.now (option_map (λ b. b.now) c.in-Some.node.«data») c.in-Some.node.links.now c.in-Some.node.size c.in-Some.node.sorted c.args.out.now c.in-Some.ensures (omega (arith, c.if-node-out.false))

pub returns : goal.returns
returns c =
    let inner = option_map (λ b. b.now) c.in-Some.node.«data» in
    let m = c.in-Some.ensures in
    node_put c.args.model.now inner c.in-Some.node.links.now c.in-Some.node.size c.in-Some.node.sorted c.args.out.now c.fill_node.new.out m c.if-not-node.false (c.fill_node.ensures m.links m.there m.spellable.links)
