use Rattle.dagcbor_items.proofs.Links.{link_read, first_refused, second_refused}
use Rattle.std.proofs.Common.{arith}
use Rattle.dagcbor_heads.proofs.Refusing.{as_refusal}
use Rattle.dagcbor_heads.proofs.Looking.{looks_both, looks_then}
use Rattle.dagcbor_items.proofs.Looks.{looks_after, taken_more, major_left, one_byte_taken}
use Rattle.dagcbor_items.proofs.link.pull_link.Goals as goal

pub returns-clause-link : goal.returns-clause-link
returns-clause-link g c = link_read _ _ c.in_ok-pull_wanted.ensures.wanted c.in_ok-pull_wanted-2.ensures.wanted c.pull_cid.ensures.cid

pub returns-in_err-pull_wanted-clause-link : goal.returns-in_err-pull_wanted-clause-link
returns-in_err-pull_wanted-clause-link g c = as_refusal _ _ _ _ c.from_residual.ensures.1 (first_refused _ _ _ c.in_err-pull_wanted.ensures.wanted)

pub returns-in_err-pull_wanted-2-clause-link : goal.returns-in_err-pull_wanted-2-clause-link
returns-in_err-pull_wanted-2-clause-link g c = as_refusal _ _ _ _ c.from_residual-in_err-pull_wanted-2.ensures.1 (second_refused _ _ c.in_ok-pull_wanted.ensures.wanted c.in_err-pull_wanted-2.ensures.wanted)

pub returns-clause-looked : goal.returns-clause-looked
returns-clause-looked g c =
    let wanted = looks_both c.in_ok-pull_wanted.ensures.looked c.in_ok-pull_wanted-2.ensures.looked in
    looks_after _ _ (taken_more 2 (omega arith) wanted) c.pull_cid.ensures.looked

pub returns-in_err-pull_wanted-clause-peeked : goal.returns-in_err-pull_wanted-clause-peeked
returns-in_err-pull_wanted-clause-peeked g c = λ starts. as_refusal _ _ _ _ c.from_residual.ensures.1 (major_left starts c.in_err-pull_wanted.ensures.looked)

pub returns-in_err-pull_wanted-2-clause-peeked : goal.returns-in_err-pull_wanted-2-clause-peeked
returns-in_err-pull_wanted-2-clause-peeked g c =
    λ starts. as_refusal _ _ _ _ c.from_residual-in_err-pull_wanted-2.ensures.1 (major_left starts (looks_then c.in_ok-pull_wanted.ensures.looked c.in_err-pull_wanted-2.ensures.looked))

pub returns-clause-peeked : goal.returns-clause-peeked
returns-clause-peeked g c =
    let tag = taken_more 2 (omega arith) c.in_ok-pull_wanted-2.ensures.looked in
    λ starts. looks_after _ _ (looks_both (one_byte_taken c.in_ok-pull_wanted.ensures.looked c.in_ok-pull_wanted.ensures.wanted) tag) c.pull_cid.ensures.looked
