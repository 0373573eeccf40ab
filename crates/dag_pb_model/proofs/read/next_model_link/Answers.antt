use Rattle.dagcbor_decode.proofs.Fronts.{no_front}
use Rattle.dag_pb_model.proofs.Parting.{no_hash, no_ends, link_model_opened, link_model_closed}
use Rattle.dag_pb_model.proofs.read.next_model_link.Goals as goal

pub returns-in_err-major : goal.returns-in_err-major
returns-in_err-major c = rw c.from_residual.ensures (λ l rest. no_front _ rest _ c.in_err-major.ensures)

pub returns-then-major-ne5 : goal.returns-then-major-ne5
returns-then-major-ne5 c l rest f = c.if-major-ne5.true (link_model_opened _ _ _ c.in_ok-major.following.now rest l c.in_ok-major.ensures f).0

pub returns-in_err-name : goal.returns-in_err-name
returns-in_err-name c = rw c.from_residual-in_err-name.ensures (no_ends _ _ c.in_ok-major.following.now c.in-Some.linked.rest.now _ (rw c.if-major-ne5.false at c.in_ok-major.ensures) c.in-Some.ensures.1 c.in_err-name.ensures)

pub returns : goal.returns
returns c = (c.in-Some.ensures.0, link_model_closed _ _ c.in_ok-major.following.now c.in-Some.linked.rest.now _ _ _ _ (rw c.if-major-ne5.false at c.in_ok-major.ensures) c.in-Some.ensures.1 c.in_ok-name.ensures)

pub returns-in_default : goal.returns-in_default
returns-in_default c = no_hash _ _ c.in_ok-major.following.now (rw c.if-major-ne5.false at c.in_ok-major.ensures) c.in_default.ensures
