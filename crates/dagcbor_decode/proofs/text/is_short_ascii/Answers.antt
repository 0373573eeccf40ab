use Rattle.std.proofs.Common.{sym, ◌∙◌}
use Rattle.dagcbor_decode.proofs.Fronts.{plain_text}
use Rattle.dagcbor_decode.proofs.text.is_short_ascii.Goals as goal

pub returns-then-bytes-lt-SHORT-clause-text : goal.returns-then-bytes-lt-SHORT-clause-text
returns-then-bytes-lt-SHORT-clause-text c plain = plain_text c.args.bytes.now (sym c.is_plain.ensures ∙ plain)
