use Rattle.std.proofs.Common.{sym, ◌∙◌}
use Rattle.dagcbor_decode.proofs.CidTest.{cid_tested}
use Rattle.dagcbor_decode.proofs.Fronts.{no_front, cid_passed}
use Rattle.dagcbor_decode.proofs.Absent.{no_cid_of, no_cid_payload, no_zero_byte, no_zero_at_front, no_cid_there}
use Rattle.dagcbor_decode.proofs.front.after_cid.Goals as goal

pub returns-in_err-major : goal.returns-in_err-major
returns-in_err-major c = rw c.from_residual.ensures (λ k. no_front _ _ _ c.in_err-major.ensures k.2.1)

pub returns-then-major-ne2 : goal.returns-then-major-ne2
returns-then-major-ne2 c = no_cid_of _ _ _ _ c.in_ok-major.ensures c.if-major-ne2.true

pub returns-in_err-payload : goal.returns-in_err-payload
returns-in_err-payload c = rw c.from_residual-in_err-payload.ensures (no_cid_payload _ _ c.in_ok-major.more.now (rw c.if-major-ne2.false at c.in_ok-major.ensures) c.in_err-payload.ensures)

pub returns-in_err-zero : goal.returns-in_err-zero
returns-in_err-zero c = rw c.from_residual-in_err-zero.ensures (no_zero_byte _ _ c.in_ok-major.more.now _ _ (rw c.if-major-ne2.false at c.in_ok-major.ensures) c.in_ok-payload.ensures c.in_err-zero.ensures.cases)

pub returns-then-zero-ne0 : goal.returns-then-zero-ne0
returns-then-zero-ne0 c = no_zero_at_front _ _ _ c.in_ok-major.more.now _ _ _ (rw c.if-major-ne2.false at c.in_ok-major.ensures) c.in_ok-payload.ensures c.in_ok-zero.ensures.cases.0 c.if-zero-ne0.true

pub returns-then-not-is_cid : goal.returns-then-not-is_cid
returns-then-not-is_cid c = no_cid_there _ _ _ c.in_ok-major.more.now _ _ _ (rw c.if-major-ne2.false at c.in_ok-major.ensures) c.in_ok-payload.ensures c.in_ok-zero.ensures.cases.0 (λ valid. cc ((cid_tested _).1 valid, c.is_cid.ensures, c.if-not-is_cid.true))

pub returns : goal.returns
returns c = (_, cid_passed _ _ c.in_ok-major.more.now _ _ _ (rw c.if-major-ne2.false at c.in_ok-major.ensures) c.in_ok-payload.ensures (rw c.if-zero-ne0.false at c.in_ok-zero.ensures.cases.0) ((cid_tested _).0 (sym c.is_cid.ensures ∙ c.if-not-is_cid.false)))
