use Rattle.std.proofs.Common.{sym, ◌∙◌, subst, IsUtf8}
use Rattle.std.proofs.lemmas.Str.{IsUtf8-from_is_utf8, is_utf8-from_IsUtf8}
use Rattle.dagcbor_decode.proofs.Absent.{one_payload}
use Rattle.dag_pb_model.proofs.read.split_payload_text.Goals as goal

pub returns-then-not-is_text : goal.returns-then-not-is_text
returns-then-not-is_text c (s, rest, p) =
    let same = one_payload c.args.n c.args.bytes.now s c.in_ok-payload.payload.now rest c.in_ok-payload.rest.now p.1 c.in_ok-payload.ensures in
    cc (is_utf8-from_IsUtf8 _ (subst IsUtf8 same p.0), c.is_text.ensures, c.if-not-is_text.true)

pub returns : goal.returns
returns c = (IsUtf8-from_is_utf8 _ (sym c.is_text.ensures ∙ c.if-not-is_text.false), c.in_ok-payload.ensures)
