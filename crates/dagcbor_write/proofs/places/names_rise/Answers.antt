use Rattle.std.proofs.Common.{◌+◌, drop, sym, ap, ◌∙◌}
use Rattle.ipld_tree.specs.Key.{comes_before}
use Rattle.dagcbor_write.specs.Rows.{names_rise}
use Rattle.dagcbor_write.proofs.PlaceOrder.{name_rises, name_stops, no_name}
use Rattle.dagcbor_write.proofs.places.names_rise.Goals as goal

pub loop-place-init : goal.loop-place-init
loop-place-init c =
    ap (λ last. names_rise last c.args.places.now) (sym c.as_bytes-last.ensures.value)

pub returns-then-not-comes_before : goal.returns-then-not-comes_before
returns-then-not-comes_before c =
    let late = ap (comes_before c.loop-place.last.now) (sym c.as_bytes-name.ensures.value)
    ∙ sym c.if-not-comes_before.ensures in
    sym (c.loop-place.invariant ∙ name_stops c.args.places.now _ _ _ c.loop-place-test.true late)

pub loop-place-preserved : goal.loop-place-preserved
loop-place-preserved c =
    let following = ap (comes_before c.loop-place.last.now) (sym c.as_bytes-name.ensures.value)
    ∙ sym c.if-not-comes_before.ensures in
    c.loop-place.invariant ∙ name_rises c.args.places.now _ _ _ c.loop-place-test.true following
    ∙ ap (λ last. names_rise last (drop (c.loop-place.place-index + 1) c.args.places.now))
    (sym c.as_bytes-name.ensures.value)

pub returns : goal.returns
returns c = sym (c.loop-place.invariant ∙ no_name c.args.places.now _ _ c.loop-place-test.false)
