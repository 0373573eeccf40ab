use Rattle.dagcbor_decode.proofs.Fronts.{no_front}
use Rattle.dag_pb_model.proofs.Parting.{no_bytes_of, bytes_judged}
use Rattle.dag_pb_model.proofs.read.split_bytes.Goals as goal

pub returns-in_err-major : goal.returns-in_err-major
returns-in_err-major c = rw c.from_residual.ensures (λ k. no_front _ _ _ c.in_err-major.ensures k.2)

pub returns-then-major-ne2 : goal.returns-then-major-ne2
returns-then-major-ne2 c = no_bytes_of _ _ _ _ c.in_ok-major.ensures c.if-major-ne2.true

pub returns : goal.returns
returns c = bytes_judged (λ p. p.0.now) (λ p. p.1.now) _ _ c.in_ok-major.more.now c.split_payload.result (rw c.if-major-ne2.false at c.in_ok-major.ensures) c.split_payload.ensures
