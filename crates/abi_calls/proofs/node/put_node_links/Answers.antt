use Rattle.std.proofs.Common.{◌≡◌, inl, length, refl, sym, ap, ◌∙◌, arith}
use Rattle.dag_pb.specs.Node.{node_links}
use Rattle.dag_pb.proofs.Reading.{row_of_node}
use Rattle.lent_memory.specs.Puts.{with_front}
use Rattle.lent_memory.proofs.Putting.{stays_without_room}
use Rattle.abi_calls.specs.Packed.{packed_cids, packed_fields}
use Rattle.abi_calls.proofs.node.put_node_links.Goals as goal

pub returns-then-needed-out : goal.returns-then-needed-out
returns-then-needed-out c =
    let node = c.in-Ok.ensures.0 in
    let k = row_of_node c.args.node.now node c.in-Ok.ensures.1 in
    let is : packed_fields k.0 ≡ packed_cids (node_links node) = ap packed_cids (sym k.2) in
    let counted = (c.pack_fields.ensures k.0 k.1).0 in
    let put = (c.pack_fields-then-needed-out.ensures k.0 k.1).1 (omega (arith, counted, c.if-needed-out.true)) in
    inl (node, c.in-Ok.ensures.1, counted ∙ ap length is, put ∙ ap (λ s. with_front s c.args.out.now) is, refl, refl)

pub returns-else-needed-out : goal.returns-else-needed-out
returns-else-needed-out c =
    let node = c.in-Ok.ensures.0 in
    let k = row_of_node c.args.node.now node c.in-Ok.ensures.1 in
    let is : packed_fields k.0 ≡ packed_cids (node_links node) = ap packed_cids (sym k.2) in
    let counted = (c.pack_fields.ensures k.0 k.1).0 in
    let stays = sym (stays_without_room (packed_fields k.0) c.args.out.now (omega (arith, counted, c.if-needed-out.false))) in
    inl (node, c.in-Ok.ensures.1, counted ∙ ap length is, stays ∙ ap (λ s. with_front s c.args.out.now) is, refl, refl)
