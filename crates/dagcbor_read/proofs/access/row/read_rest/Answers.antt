use Rattle.std.proofs.Common.{inl, inr}
use Rattle.dagcbor_read.specs.Accessors.{accessor_state}
use Rattle.dagcbor_read.specs.Deserializers.{de_state}
use Rattle.dagcbor_read.proofs.Wholes.{on_refusal}
use Rattle.dagcbor_read.proofs.Handing.{unread_past}
use Rattle.dagcbor_read.proofs.access.row.read_rest.Goals as goal

pub returns-in_err-row-clause-refuses : goal.returns-in_err-row-clause-refuses
returns-in_err-row-clause-refuses g c = on_refusal _ _ _ c.from_residual.ensures.1 (inl c.in_err-row.ensures.refuses)

pub returns-in_err-end-clause-refuses : goal.returns-in_err-end-clause-refuses
returns-in_err-end-clause-refuses g c =
    let row = c.in_ok-row.ensures.row in
    on_refusal _ _ _ c.from_residual-in_err-end.ensures.1 (inr (unread_past g.L.Row.shape _ _ (accessor_state c.read_row.new.items) _ (de_state g.R.Read.reading c.read_row.new.de) (de_state g.R.Read.reading c.end.new.de) _ _ row.0 row.1 row.2 c.in_ok-row.ensures.counted row.3 c.in_err-end.ensures))
