use Rattle.dagcbor_heads.proofs.Refusing.{as_refusal}
use Rattle.dagcbor_items.proofs.Links.{cid_byte_refused, no_byte_string}
use Rattle.dagcbor_items.proofs.link.pull_cid.Goals as goal

pub returns-in_err-first-clause-cid : goal.returns-in_err-first-clause-cid
returns-in_err-first-clause-cid g c = as_refusal _ _ _ _ c.from_residual.ensures.1 (cid_byte_refused _ _ _ c.in_err-first.ensures.variant c.in_err-first.ensures.shown)

pub returns-then-first-ne2-clause-cid : goal.returns-then-first-ne2-clause-cid
returns-then-first-ne2-clause-cid g c =
    let told = c.unsupported.ensures in
    rw told.1 (no_byte_string g.row.R-Error.Denot told.0 told.2 c.in_ok-first.ensures.shown c.if-first-ne2.true)
