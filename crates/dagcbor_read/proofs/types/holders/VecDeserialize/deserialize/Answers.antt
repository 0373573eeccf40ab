use Rattle.std.proofs.Common.{map, codes}
use Rattle.dagcbor_read.specs.Deserializers.{de_state}
use Rattle.dagcbor_read.specs.Collections.{all_of}
use Rattle.dagcbor_read.proofs.ItemRows.{rest_reads}
use Rattle.dagcbor_read.specs.Accessors.{BeginsItems}
use Rattle.dagcbor_read.specs.Parts.{RefusesItems, RefusesRest}
use Rattle.dagcbor_read.proofs.Handing.{rest_refused, not_begun}
use Rattle.dagcbor_read.proofs.types.holders.VecDeserialize.deserialize.Goals as goal

pub returns-clause-value : goal.returns-clause-value
returns-clause-value g c =
    rest_reads (all_of g.T.Shown.shape) (λ v. map g.T.Shown.meaning v.items) (de_state g.R.Read.reading c.args.de.now) (de_state g.R.Read.reading c.deserialize_seq.new.self) (de_state g.R.Read.reading c.read_rest.new.de) (codes "array") c.in_ok-items.items c.read_rest.result c.in_ok-items.ensures.begun c.read_rest.ensures.rest

pub returns-in_err-items-clause-answers : goal.returns-in_err-items-clause-answers
returns-in_err-items-clause-answers g c = not_begun (BeginsItems 4 (codes "array") 1) (RefusesRest (λ left. left) (RefusesItems g.T.Deserialize.answers)) _ _ _ _ c.from_residual.ensures.1 c.in_err-items.ensures.begun

pub returns-clause-answers : goal.returns-clause-answers
returns-clause-answers g c = rest_refused (BeginsItems 4 (codes "array") 1) (RefusesRest (λ left. left) (RefusesItems g.T.Deserialize.answers)) _ _ _ c.in_ok-items.items c.read_rest.result c.in_ok-items.ensures.begun c.read_rest.ensures.refuses
