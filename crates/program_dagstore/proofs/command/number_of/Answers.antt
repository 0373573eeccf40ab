use Rattle.std.proofs.Common.{arith, sym, ◌∙◌}
use Rattle.program_dagstore.proofs.Commanding.{numbered}
use Rattle.program_dagstore.proofs.command.number_of.Goals as goal

pub returns : goal.returns
returns c = numbered c.args.digits.now c.from_str_radix.result c.ok.result (sym (c.starts_with.ensures.byte (omega arith) (omega arith) (λ w o k. k)) ∙ c.if-starts_with.false) (omega (arith, c.if-digits-gt-MOST_DIGITS.false)) c.from_str_radix.ensures.value c.ok.ensures.value
