use Rattle.dagcbor_heads.proofs.Refusing.{as_refusal}
use Rattle.dagcbor_items.proofs.StringReads.{text_string_refused, text_string_taken, no_text_refused}
use Rattle.dagcbor_items.proofs.strings.pull_peeked_str.Goals as goal

pub returns-in_err-payload-clause-text : goal.returns-in_err-payload-clause-text
returns-in_err-payload-clause-text g c = as_refusal _ _ _ _ c.from_residual.ensures.1 (text_string_refused _ _ _ _ _ c.in_err-payload.ensures.string)

pub returns-in-Some-clause-text : goal.returns-in-Some-clause-text
returns-in-Some-clause-text g c = text_string_taken _ _ c.in-Some.ensures.text.0 c.in-Some.ensures.text.1 c.in_ok-payload.ensures.string

pub returns-in-None-clause-text : goal.returns-in-None-clause-text
returns-in-None-clause-text g c = no_text_refused g.row.R-Error.Denot _ _ c.new.result c.new.ensures c.in_ok-payload.ensures.string c.in-None.ensures.text
