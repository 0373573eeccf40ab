use Rattle.std.proofs.Common.{sym, ◌∙◌}
use Rattle.std.proofs.lemmas.Str.{IsUtf8-from_is_utf8}
use Rattle.abi_calls.proofs.judge.text_of.Goals as goal

pub returns-then-is_text : goal.returns-then-is_text
returns-then-is_text c = (IsUtf8-from_is_utf8 _ (sym c.is_text.ensures ∙ c.if-is_text.true), c.in_ok-payload.ensures)
