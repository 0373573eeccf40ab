use Rattle.std.proofs.Common.{sym, subst, IsUtf8}
use Rattle.dagcbor_items.proofs.StringReads.{text_string_taken, no_text_refused}
use Rattle.dagcbor_items.proofs.strings.pull_str.Goals as goal

pub returns-in-Some-as_text-clause-text : goal.returns-in-Some-as_text-clause-text
returns-in-Some-as_text-clause-text g c =
    let string = c.in-Some.ensures.taken in
    let text = c.in-Some-as_text.ensures in
    text_string_taken _ _ text.0 (subst IsUtf8 (sym text.0) text.1) record { fits = string.1; takes = string.2 }

pub returns-in-None-clause-text : goal.returns-in-None-clause-text
returns-in-None-clause-text g c =
    let string = c.in-Some.ensures.taken in
    let told = c.no_text.ensures in
    rw told.1 (no_text_refused g.row.R-Error.Denot _ _ told.0 told.2 record { fits = string.1; takes = string.2 } c.in-None.ensures)
