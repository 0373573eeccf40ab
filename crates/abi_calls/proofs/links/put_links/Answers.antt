use Rattle.std.proofs.Common.{rules, ℤ, w32, ap, sym, ◌∙◌, arith}
use Rattle.std.proofs.lemmas.Int.{to_z-of_z}
use Rattle.ipld_tree.specs.Tree.{links_of}
use Rattle.dagcbor_decode.proofs.FirstLinks.{item_links}
use Rattle.abi_calls.specs.Packed.{packed_links}
use Rattle.abi_calls.proofs.Putting.{links_put, none_put, whole_kind}
use Rattle.lent_memory.proofs.Putting.{stays_without_room}
use Rattle.abi_calls.proofs.links.put_links.Goals as goal
use Rattle.abi_calls.proofs.links.put_links.Goals.{then-needed-out, else-needed-out}

pub pack-requires : goal.pack-requires
pack-requires c = (links_of c.in-Ok.ensures.tree, item_links c.in-Ok.ensures)

pub pack-requires-then-needed-out : goal.pack-requires-then-needed-out
pack-requires-then-needed-out c = (links_of c.in-Ok.ensures.tree, item_links c.in-Ok.ensures)

pub returns-after-needed-out : goal.returns-after-needed-out
returns-after-needed-out c =
    let f = c.in-Ok.ensures in
    let counted = (c.pack.ensures (links_of f.tree) (item_links f)).0 in
    ap (λ (code : ℤ). (code, c.pack.result, c.if-needed-out.out)) (to_z-of_z w32 c.kind_code.result (search rules))
    ∙ links_put c.args.bytes.now c.in-Ok.item.now c.args.out.now c.if-needed-out.out c.pack.result c.kind_code.result f (c.kind_code.ensures ∙ whole_kind f c.kind_of_front.ensures) counted
    (elim c.if-needed-out.branch [
      | then-needed-out w ↦ w.out-is ∙ (w.pack-then-needed-out.ensures (links_of f.tree) (item_links f)).1 (omega (arith, counted, w.if-needed-out.true))
      | else-needed-out w ↦ w.out-is ∙ sym (stays_without_room (packed_links f.tree) c.args.out.now (omega (arith, counted, w.if-needed-out.false)))
    ])

pub returns-in-Err : goal.returns-in-Err
returns-in-Err c =
    ap (λ (code : ℤ). (code, 0, c.args.out.now)) (to_z-of_z w32 c.refusal_code.result (search rules) ∙ c.refusal_code.ensures) ∙ none_put c.args.bytes.now c.args.out.now c.in-Err.refusal c.in-Err.ensures
