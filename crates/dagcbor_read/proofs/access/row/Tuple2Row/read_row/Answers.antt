use Rattle.std.proofs.Common.{inl, inr, refl, ap, arith}
use Rattle.dagcbor_heads.proofs.Refusing.{as_refusal}
use Rattle.dagcbor_read.specs.Accessors.{AccessorState, accessor_state}
use Rattle.dagcbor_read.specs.Deserializers.{de_state}
use Rattle.dagcbor_read.proofs.Answered.{element_read, no_element, element_refused, after_some}
use Rattle.dagcbor_read.proofs.ItemRows.{first_joins, part_refused, parts_refused, parts_taken}
use Rattle.dagcbor_read.proofs.Wholes.{on_refusal}
use Rattle.dagcbor_read.proofs.Handing.{item_past, others_past, others_counted, says}
use Rattle.dagcbor_read.proofs.access.row.Tuple2Row.read_row.Goals as goal

pub returns-in_err-first-clause-row : goal.returns-in_err-first-clause-row
returns-in_err-first-clause-row g c =
    let k = element_refused g.row.R-Error.Denot g.T.Shown.meaning g.T.Shown.shape _ _ (de_state g.R.Read.reading c.next_element.new.de) _ c.requires.sound c.in_err-first.ensures.element in
    as_refusal _ _ _ _ c.from_residual.ensures.1 (part_refused (first_joins g.T.Shown.shape g.L.Row.shape) _ _ _ k.0 k.1)

pub returns-in_err-others-clause-row : goal.returns-in_err-others-clause-row
returns-in_err-others-clause-row g c =
    let k = element_read g.row.R-Error.Denot g.T.Shown.meaning g.T.Shown.shape _ (de_state g.R.Read.reading c.args.de.now) (de_state g.R.Read.reading c.next_element.new.de) _ _ c.in-Some.is c.in_ok-first.ensures.element in
    let after = after_some g.row.R-Error.Denot g.T.Shown.meaning g.T.Shown.shape _ _ (accessor_state c.args.items.now) _ c.in-Some.is c.in_ok-first.ensures.after in
    as_refusal _ _ _ _ c.from_residual-in_err-others.ensures.1 (parts_refused (first_joins g.T.Shown.shape g.L.Row.shape) _ _ k.some after k.takes c.in_err-others.ensures.row)

pub returns-clause-row : goal.returns-clause-row
returns-clause-row g c =
    let k = element_read g.row.R-Error.Denot g.T.Shown.meaning g.T.Shown.shape _ (de_state g.R.Read.reading c.args.de.now) (de_state g.R.Read.reading c.next_element.new.de) _ _ c.in-Some.is c.in_ok-first.ensures.element in
    let after = after_some g.row.R-Error.Denot g.T.Shown.meaning g.T.Shown.shape _ _ (accessor_state c.args.items.now) _ c.in-Some.is c.in_ok-first.ensures.after in
    parts_taken (first_joins g.T.Shown.shape g.L.Row.shape) k.some after k.takes c.in_ok-others.ensures.row

pub returns-in_err-first-clause-refuses : goal.returns-in_err-first-clause-refuses
returns-in_err-first-clause-refuses g c =
    let k = element_refused g.row.R-Error.Denot g.T.Shown.meaning g.T.Shown.shape _ _ (de_state g.R.Read.reading c.next_element.new.de) _ c.requires.sound c.in_err-first.ensures.element in
    on_refusal _ _ _ c.from_residual.ensures.1 (inl (k.0, c.in_err-first.ensures.answers c.requires.sound))

pub returns-in_default-clause-refuses : goal.returns-in_default-clause-refuses
returns-in_default-clause-refuses g c =
    let k = no_element g.row.R-Error.Denot g.T.Shown.meaning g.T.Shown.shape _ (de_state g.R.Read.reading c.args.de.now) (de_state g.R.Read.reading c.next_element.new.de) _ c.in_default.is c.in_ok-first.ensures.element in
    inr (inl (k.1, says c.custom.ensures, k.0, k.2))

pub returns-in_err-others-clause-refuses : goal.returns-in_err-others-clause-refuses
returns-in_err-others-clause-refuses g c =
    let k = element_read g.row.R-Error.Denot g.T.Shown.meaning g.T.Shown.shape _ (de_state g.R.Read.reading c.args.de.now) (de_state g.R.Read.reading c.next_element.new.de) _ _ c.in-Some.is c.in_ok-first.ensures.element in
    let after = after_some g.row.R-Error.Denot g.T.Shown.meaning g.T.Shown.shape _ _ (accessor_state c.args.items.now) _ c.in-Some.is c.in_ok-first.ensures.after in
    on_refusal _ _ _ c.from_residual-in_err-others.ensures.1 (inr (inr (k.some, others_past g.L.Row.refuses (item_past refl k.sound k.takes) (ap (λ (a : AccessorState). a.left) after) c.in_err-others.ensures.refuses)))

pub returns-clause-counted : goal.returns-clause-counted
returns-clause-counted g c =
    let k = element_read g.row.R-Error.Denot g.T.Shown.meaning g.T.Shown.shape _ (de_state g.R.Read.reading c.args.de.now) (de_state g.R.Read.reading c.next_element.new.de) _ _ c.in-Some.is c.in_ok-first.ensures.element in
    let after = after_some g.row.R-Error.Denot g.T.Shown.meaning g.T.Shown.shape _ _ (accessor_state c.args.items.now) _ c.in-Some.is c.in_ok-first.ensures.after in
    let fewer = ap (λ (a : AccessorState). a.left) after in
    others_counted g.L.Row.takes 1 _ _ _ fewer (omega (arith, k.some, fewer)) c.in_ok-others.ensures.counted
