use Rattle.std.proofs.Common.{refl, arith}
use Rattle.dagcbor_decode.proofs.Fronts.{natural_passed, negative_passed, bytes_passed, text_passed}
use Rattle.dagcbor_decode.proofs.Absent.{no_leaf_of_parts, no_bytes, no_text, link_judged, simple_judged}
use Rattle.dagcbor_decode.proofs.front.after_leaf.Goals as goal

pub returns-in_err-_payload-in-2 : goal.returns-in_err-_payload-in-2
returns-in_err-_payload-in-2 c b h = rw c.from_residual.ensures (λ k. no_bytes _ _ _ _ k.1.0 (rw c.in-2.is at h) c.in_err-_payload-in-2.ensures k.1.1)

pub returns-in_err-_text-in-3 : goal.returns-in_err-_text-in-3
returns-in_err-_text-in-3 c b h = rw c.from_residual-in_err-_text-in-3.ensures (λ k. no_text _ _ _ k.0 k.1.0 (rw c.in-3.is at h) (λ s p. c.in_err-_text-in-3.ensures (s, k.0, p)) k.1.1)

pub returns-in-0 : goal.returns-in-0
returns-in-0 c b h = (_, natural_passed _ _ _ (rw c.in-0.is at h), refl)

pub returns-in-1 : goal.returns-in-1
returns-in-1 c b h = (_, negative_passed _ _ _ (rw c.in-1.is at h), refl)

pub returns-in_ok-_payload-in-2 : goal.returns-in_ok-_payload-in-2
returns-in_ok-_payload-in-2 c b h = (_, bytes_passed _ _ _ _ _ (rw c.in-2.is at h) c.in_ok-_payload-in-2.ensures, refl)

pub returns-in_ok-_text-in-3 : goal.returns-in_ok-_text-in-3
returns-in_ok-_text-in-3 c b h = (_, text_passed _ _ _ _ _ (rw c.in-3.is at h) c.in_ok-_text-in-3.ensures, refl)

pub returns-in-6 : goal.returns-in-6
returns-in-6 c b h = link_judged (λ x. x.now) _ _ _ c.after_tag.result (rw c.in-6.is at h) c.after_tag.ensures

pub returns-in-7 : goal.returns-in-7
returns-in-7 c b h = simple_judged (λ x. x.now) _ _ _ c.after_simple.result (rw c.in-7.is at h) c.after_simple.ensures

pub returns-in_default : goal.returns-in_default
returns-in_default c b h = no_leaf_of_parts _ _ b c.args.more.now h (omega (arith, h.0)) (omega (arith, h.0))
