use Rattle.std.proofs.Common.{codes}
use Rattle.dagcbor_read.specs.Deserializers.{de_state}
use Rattle.dagcbor_read.specs.Accessors.{BeginsItems}
use Rattle.dagcbor_read.specs.Parts.{RefusesRest}
use Rattle.dagcbor_read.proofs.ItemRows.{rest_reads}
use Rattle.dagcbor_read.proofs.Handing.{rest_refused, not_begun}
use Rattle.dagcbor_read.proofs.access.row.read_tuple.Goals as goal

pub returns-clause-value : goal.returns-clause-value
returns-clause-value g c =
    rest_reads g.L.Row.shape g.L.Row.meaning (de_state g.R.Read.reading c.args.de.now) (de_state g.R.Read.reading c.deserialize_tuple.new.self) (de_state g.R.Read.reading c.read_rest.new.de) (codes "tuple") c.in_ok-items.items c.read_rest.result c.in_ok-items.ensures.begun c.read_rest.ensures.rest

pub returns-in_err-items-clause-refuses : goal.returns-in_err-items-clause-refuses
returns-in_err-items-clause-refuses g c = not_begun (BeginsItems 4 (codes "tuple") 1) (RefusesRest g.L.Row.takes g.L.Row.refuses) _ _ _ _ c.from_residual.ensures.1 c.in_err-items.ensures.begun

pub returns-clause-refuses : goal.returns-clause-refuses
returns-clause-refuses g c = rest_refused (BeginsItems 4 (codes "tuple") 1) (RefusesRest g.L.Row.takes g.L.Row.refuses) _ _ _ c.in_ok-items.items c.read_rest.result c.in_ok-items.ensures.begun c.read_rest.ensures.refuses
