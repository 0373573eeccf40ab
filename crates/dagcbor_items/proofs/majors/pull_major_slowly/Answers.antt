use Rattle.dagcbor_heads.proofs.Refusing.{as_refusal}
use Rattle.dagcbor_items.proofs.HeadMajors.{kind_head_refused, kind_taken}
use Rattle.dagcbor_items.proofs.Looks.{peeked_taken, head_taken}
use Rattle.dagcbor_items.proofs.majors.pull_major_slowly.Goals as goal

pub returns-in_err-first-clause-kind : goal.returns-in_err-first-clause-kind
returns-in_err-first-clause-kind g c = as_refusal _ _ _ _ c.from_residual.ensures.1 c.in_err-first.ensures.kind

pub returns-in_err-argument-clause-kind : goal.returns-in_err-argument-clause-kind
returns-in_err-argument-clause-kind g c =
    let first = c.in_ok-first.ensures.kind in
    as_refusal _ _ _ _ c.from_residual-in_err-argument.ensures.1
    (kind_head_refused _ c.args.low c.args.high _ _ c.requires first.0 first.1 c.in_err-argument.ensures.variant first.2 c.in_err-argument.ensures.taken)

pub returns-clause-kind : goal.returns-clause-kind
returns-clause-kind g c = let first = c.in_ok-first.ensures.kind in kind_taken first.2 first.0 first.1 c.in_ok-argument.ensures.taken

pub returns-clause-looked : goal.returns-clause-looked
returns-clause-looked g c = peeked_taken c.in_ok-first.ensures.looked c.in_ok-first.ensures.kind.2 (head_taken c.in_ok-argument.ensures.looked c.in_ok-argument.ensures.taken)
