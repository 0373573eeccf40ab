use Rattle.std.proofs.Common.{sym, ◌∙◌, arith}
use Rattle.program_records.proofs.Wording.{same_digit}
use Rattle.program_records.proofs.key.digit_value.Goals as goal

pub returns-then-upper_digit-byte-clause-value : goal.returns-then-upper_digit-byte-clause-value
returns-then-upper_digit-byte-clause-value c n l is =
    same_digit c.loop-value.value n (omega (arith, c.loop-value-test.true)) l (sym c.upper_digit.ensures ∙ c.if-upper_digit-byte.true ∙ is)
