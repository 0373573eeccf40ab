use Rattle.std.proofs.Common.{sym, subst, IsUtf8}
use Rattle.std.specs.declared.convert.Infallible.{Infallible}
use Rattle.dagcbor_heads.proofs.Refusing.{as_refusal}
use Rattle.dagcbor_items.proofs.StringReads.{text_string_refused, text_string_taken, no_text_refused}
use Rattle.dagcbor_items.proofs.payloads.pull_peeked_lent_text.Goals as goal

pub returns-in_err-payload-clause-text : goal.returns-in_err-payload-clause-text
returns-in_err-payload-clause-text c = as_refusal _ _ _ _ c.from_residual.ensures.1 (text_string_refused _ _ _ _ _ c.in_err-payload.ensures.string)

pub returns-in-Some-clause-text : goal.returns-in-Some-clause-text
returns-in-Some-clause-text c =
    text_string_taken c.in-Some.text.now c.in_ok-payload.payload.now c.in-Some.ensures.0 (subst IsUtf8 (sym c.in-Some.ensures.0) c.in-Some.ensures.1) c.in_ok-payload.ensures.string

pub returns-in-None-clause-text : goal.returns-in-None-clause-text
returns-in-None-clause-text c = no_text_refused Infallible _ _ c.new.result c.new.ensures c.in_ok-payload.ensures.string c.in-None.ensures
