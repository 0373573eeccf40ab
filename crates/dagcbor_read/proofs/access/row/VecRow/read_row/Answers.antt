use Rattle.std.proofs.Common.{◌≡◌, true, inl, inr, refl, arith, ap}
use Rattle.dagcbor_heads.proofs.Refusing.{as_refusal}
use Rattle.dagcbor_read.specs.Accessors.{AccessorState, accessor_state}
use Rattle.dagcbor_read.specs.Deserializers.{de_state}
use Rattle.dagcbor_items.proofs.Lists.{map_pushed}
use Rattle.dagcbor_read.proofs.Answered.{element_read, no_element, element_refused, after_some, after_none}
use Rattle.dagcbor_read.proofs.ItemRows.{one_more_item, none_more, item_refused, lies_pushed}
use Rattle.dagcbor_read.proofs.Wholes.{on_refusal}
use Rattle.dagcbor_read.proofs.Handing.{item_past, items_past}
use Rattle.dagcbor_read.proofs.access.row.VecRow.read_row.Goals as goal

pub returns-in_err-item-clause-row : goal.returns-in_err-item-clause-row
returns-in_err-item-clause-row g c =
    let i = c.loop-all.invariant.0 in
    let k = element_refused g.row.R-Error.Denot g.T.Shown.meaning g.T.Shown.shape _ _ (de_state g.R.Read.reading c.next_element.new.de) _ i.sound c.in_err-item.ensures.element in
    as_refusal _ _ _ _ c.from_residual.ensures.1 (item_refused g.T.Shown.shape (g.T.Shown.shape.wants_loan ≡ true) _ _ i k.0 k.1)

pub loop-all-preserved : goal.loop-all-preserved
loop-all-preserved g c =
    let i = c.loop-all.invariant.0 in
    let k = element_read g.row.R-Error.Denot g.T.Shown.meaning g.T.Shown.shape _ (de_state g.R.Read.reading c.loop-all.de) (de_state g.R.Read.reading c.next_element.new.de) _ _ c.in-Some.is c.in_ok-item.ensures.element in
    let after = after_some g.row.R-Error.Denot g.T.Shown.meaning g.T.Shown.shape _ _ (accessor_state c.loop-all.items) _ c.in-Some.is c.in_ok-item.ensures.after in (
      one_more_item g.T.Shown.shape _ _ i k.some after k.sound k.takes (map_pushed g.T.Shown.meaning c.push.result _ _ _ c.if-is_err.ensures.value c.push.ensures.items),
      lies_pushed g.T.Deserialize.lies c.push.result _ _ _ _ i.same c.in-Some.is c.in_ok-item.ensures.lies c.if-is_err.ensures.value c.push.ensures.items c.loop-all.invariant.1,
    )

pub returns-clause-row : goal.returns-clause-row
returns-clause-row g c =
    let i = c.loop-all.invariant.0 in
    let k = no_element g.row.R-Error.Denot g.T.Shown.meaning g.T.Shown.shape _ (de_state g.R.Read.reading c.loop-all.de) (de_state g.R.Read.reading c.next_element.new.de) _ c.in_default.is c.in_ok-item.ensures.element in
    let after = after_none g.row.R-Error.Denot g.T.Shown.meaning g.T.Shown.shape _ (accessor_state c.loop-all.items) _ c.in_default.is c.in_ok-item.ensures.after in
    none_more g.T.Shown.shape _ i k.1 after k.0 k.2

pub returns-in_err-item-clause-refuses : goal.returns-in_err-item-clause-refuses
returns-in_err-item-clause-refuses g c =
    let i = c.loop-all.invariant.0 in
    let k = element_refused g.row.R-Error.Denot g.T.Shown.meaning g.T.Shown.shape _ _ (de_state g.R.Read.reading c.next_element.new.de) _ i.sound c.in_err-item.ensures.element in
    on_refusal _ _ _ c.from_residual.ensures.1 (_, omega (arith, k.0, i.fewer), (_, items_past g.T.Shown.shape i, inl (c.in_err-item.ensures.answers i.sound)))

pub returns-then-is_err-clause-refuses : goal.returns-then-is_err-clause-refuses
returns-then-is_err-clause-refuses g c =
    let i = c.loop-all.invariant.0 in
    let k = element_read g.row.R-Error.Denot g.T.Shown.meaning g.T.Shown.shape _ (de_state g.R.Read.reading c.loop-all.de) (de_state g.R.Read.reading c.next_element.new.de) _ _ c.in-Some.is c.in_ok-item.ensures.element in
    (_, omega (arith, k.some, i.fewer), (_, items_past g.T.Shown.shape i, inr (refl, item_past refl k.sound k.takes)))

pub returns-clause-counted : goal.returns-clause-counted
returns-clause-counted g c =
    let k = no_element g.row.R-Error.Denot g.T.Shown.meaning g.T.Shown.shape _ (de_state g.R.Read.reading c.loop-all.de) (de_state g.R.Read.reading c.next_element.new.de) _ c.in_default.is c.in_ok-item.ensures.element in
    let after = after_none g.row.R-Error.Denot g.T.Shown.meaning g.T.Shown.shape _ (accessor_state c.loop-all.items) _ c.in_default.is c.in_ok-item.ensures.after in
    omega (arith, k.1, ap (λ (a : AccessorState). a.left) after)
