use Rattle.dagcbor_decode.proofs.Fronts.{no_front, natural_passed}
use Rattle.dag_pb_model.proofs.Parting.{no_number_of}
use Rattle.dag_pb_model.proofs.read.split_number.Goals as goal

pub returns-in_err-major : goal.returns-in_err-major
returns-in_err-major c = rw c.from_residual.ensures (λ k. no_front _ _ _ c.in_err-major.ensures k.2)

pub returns-then-major-ne0 : goal.returns-then-major-ne0
returns-then-major-ne0 c = no_number_of _ _ _ _ c.in_ok-major.ensures c.if-major-ne0.true

pub returns : goal.returns
returns c = natural_passed _ _ _ (rw c.if-major-ne0.false at c.in_ok-major.ensures)
