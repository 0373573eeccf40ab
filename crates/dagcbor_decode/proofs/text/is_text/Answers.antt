use Rattle.std.proofs.Common.{sym}
use Rattle.dagcbor_decode.proofs.Fronts.{text_tested}
use Rattle.std.proofs.lemmas.Str.{is_utf8-from_IsUtf8}
use Rattle.dagcbor_decode.proofs.text.is_text.Goals as goal

pub returns-then-is_short_ascii : goal.returns-then-is_short_ascii
returns-then-is_short_ascii c = sym (is_utf8-from_IsUtf8 c.args.bytes.now (c.is_short_ascii.ensures.text c.if-is_short_ascii.true))

pub returns : goal.returns
returns c = text_tested c.is_any_text.result c.args.bytes.now c.is_any_text.ensures
