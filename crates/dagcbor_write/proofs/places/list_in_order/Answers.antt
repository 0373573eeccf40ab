use Rattle.std.proofs.Common.{rules, sym, ◌∙◌}
use Rattle.dagcbor_write.proofs.PlaceOrder.{sorted_order}
use Rattle.dagcbor_write.proofs.places.list_in_order.Goals as goal

pub returns : goal.returns
returns g c t =
    sorted_order (g.F.FieldRow.pairs c.args.fields.now) _ _ _ _ _ c.requires
    (c.list_places.ensures (search rules)) c.deref_mut.ensures.value
    c.sort_unstable_by.ensures.permutation c.sort_unstable_by.ensures.len
    c.as_slice.ensures.value (sym c.names_rise.ensures ∙ search rules)
