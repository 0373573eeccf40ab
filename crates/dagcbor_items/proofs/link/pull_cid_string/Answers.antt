use Rattle.std.proofs.Common.{arith, None, Some}
use Rattle.dagcbor_heads.proofs.Refusing.{as_refusal}
use Rattle.dagcbor_items.proofs.Fronts.{head_of}
use Rattle.dagcbor_items.proofs.Links.{cid_head_refused, link_too_long, cid_payload_refused, cid_taken, no_cid, found_in}
use Rattle.dagcbor_heads.proofs.Looking.{looks_more}
use Rattle.dagcbor_items.proofs.link.pull_cid_string.Goals as goal

pub returns-in_err-count-clause-cid : goal.returns-in_err-count-clause-cid
returns-in_err-count-clause-cid g c = as_refusal _ _ _ _ c.from_residual.ensures.1 (cid_head_refused _ _ _ c.requires c.in_err-count.ensures.variant c.in_err-count.ensures.taken)

pub returns-then-count-clause-cid : goal.returns-then-count-clause-cid
returns-then-count-clause-cid g c = link_too_long _ c.custom.ensures (head_of 2 c.requires c.in_ok-count.ensures.taken.2) c.if-count.true

pub returns-in_err-payload-clause-cid : goal.returns-in_err-payload-clause-cid
returns-in_err-payload-clause-cid g c =
    as_refusal _ _ _ _ c.from_residual-in_err-payload.ensures.1 (cid_payload_refused _ _ (head_of 2 c.requires c.in_ok-count.ensures.taken.2) (omega (arith, c.if-count.false)) c.in_err-payload.ensures.variant c.in_err-payload.ensures.taken)

pub returns-in-Some-clause-cid : goal.returns-in-Some-clause-cid
returns-in-Some-clause-cid g c =
    let took = c.in_ok-payload.ensures.taken in
    cid_taken _ _ (head_of 2 c.requires c.in_ok-count.ensures.taken.2) took.0 took.1 (found_in _ _ (Some c.in-Some.cid) c.deref.ensures.0 c.in-Some.ensures)

pub returns-in-None-clause-cid : goal.returns-in-None-clause-cid
returns-in-None-clause-cid g c =
    let took = c.in_ok-payload.ensures.taken in
    no_cid _ _ c.custom-in-None.ensures (head_of 2 c.requires c.in_ok-count.ensures.taken.2) took.0 took.1 (found_in _ _ None c.deref.ensures.0 c.in-None.ensures)

pub returns-in-Some-clause-looked : goal.returns-in-Some-clause-looked
returns-in-Some-clause-looked g c = looks_more c.in_ok-count.ensures.looked c.in_ok-payload.ensures.looked
