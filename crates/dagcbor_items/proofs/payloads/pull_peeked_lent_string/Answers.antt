use Rattle.std.proofs.Common.{ap, arith, length-append, Err}
use Rattle.dagcbor_heads.proofs.Refusing.{as_refusal}
use Rattle.std.specs.declared.convert.Infallible.{Infallible}
use Rattle.dagcbor_core.specs.declared.error.DecodeError.TheVariants.{Eof}
use Rattle.dagcbor_heads.proofs.Looking.{looks_both, lent_looked}
use Rattle.dagcbor_items.proofs.StringReads.{string_read, string_head_refused}
use Rattle.dagcbor_items.proofs.HeadMajors.{head_kind}
use Rattle.dagcbor_items.proofs.payloads.pull_peeked_lent_string.Goals as goal

pub returns-in_err-count-clause-string : goal.returns-in_err-count-clause-string
returns-in_err-count-clause-string c =
    as_refusal _ _ _ _ c.from_residual.ensures.1 (string_head_refused _ _ _ _ _ _ c.requires.few c.requires.starts c.in_err-count.ensures.variant c.in_err-count.ensures.taken)

pub returns-in-None-clause-string : goal.returns-in-None-clause-string
returns-in-None-clause-string c =
    let none = c.in-None.ensures.lent in
    let told = c.end.ensures in
    rw told.1 (string_read {E = Infallible} c.args.name.now c.args.kind c.lend.new.self (Err (Eof told.0 c.new.result)) (head_kind c.requires.starts c.in_ok-count.ensures.taken) told.2 (
      ap (λ r. r.faults) none.0,
      λ h. omega (arith, none.1 _ h.left, h.long, length-append h.payload h.rest),
      λ b l. (c.new.ensures, none.1 b l),
    ))

pub returns-in-Some-clause-looked : goal.returns-in-Some-clause-looked
returns-in-Some-clause-looked c = let lent = c.in-Some.ensures.lent in looks_both c.in_ok-count.ensures.looked (lent_looked lent.0 lent.1 lent.2 c.in-Some.ensures.shown)
