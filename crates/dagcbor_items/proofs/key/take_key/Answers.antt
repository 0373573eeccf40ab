use Rattle.std.proofs.Common.{sym, subst, IsUtf8}
use Rattle.dagcbor_items.proofs.StringReads.{text_string_taken}
use Rattle.dagcbor_items.proofs.key.take_key.Goals as goal

pub returns-in-Some-clause-key : goal.returns-in-Some-clause-key
returns-in-Some-clause-key g c =
    let string = c.in_ok-payload.ensures.taken in
    let key = c.in-Some.ensures in
    let utf8 = subst IsUtf8 (sym key.0) key.1 in
    (key.2, text_string_taken _ _ key.0 utf8 record { fits = string.1; takes = string.2 })
