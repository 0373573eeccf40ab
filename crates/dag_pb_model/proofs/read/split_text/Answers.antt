use Rattle.dagcbor_decode.proofs.Fronts.{no_front}
use Rattle.dagcbor_decode.proofs.Absent.{no_key_of, key_judged}
use Rattle.dag_pb_model.proofs.read.split_text.Goals as goal

pub returns-in_err-major : goal.returns-in_err-major
returns-in_err-major c = rw c.from_residual.ensures (λ k. no_front _ _ _ c.in_err-major.ensures k.2)

pub returns-then-major-ne3 : goal.returns-then-major-ne3
returns-then-major-ne3 c = no_key_of _ _ _ _ c.in_ok-major.ensures c.if-major-ne3.true

pub returns : goal.returns
returns c = key_judged (λ p. p.0.now) (λ p. p.1.now) _ _ c.in_ok-major.more.now c.split_payload_text.result (rw c.if-major-ne3.false at c.in_ok-major.ensures) c.split_payload_text.ensures
