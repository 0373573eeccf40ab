use Rattle.std.proofs.Common.{sym, subst}
use Rattle.program_dagstore.specs.Commands.{NamesCodec}
use Rattle.program_serve.proofs.asked.sized.Goals as goal

pub returns-in_default : goal.returns-in_default
returns-in_default c codec n h = c.in_default.ensures codec (subst (λ w. NamesCodec w codec) (sym c.split_word.ensures.first) h.0)
