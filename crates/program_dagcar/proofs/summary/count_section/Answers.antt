use Rattle.std.proofs.Common.{refl}
use Rattle.program_dagcar.proofs.summary.count_section.Goals as goal

pub returns-in_ok-count-in-Ok-clause-said : goal.returns-in_ok-count-in-Ok-clause-said
returns-in_ok-count-in-Ok-clause-said c = (c.in-Ok.verdict, c.in-Ok.ensures.verdict, c.is_well.ensures, refl)

pub returns-in_ok-count-in-Ok-clause-counted : goal.returns-in_ok-count-in-Ok-clause-counted
returns-in_ok-count-in-Ok-clause-counted c = (c.in-Ok.verdict, c.in-Ok.ensures.verdict, c.in_ok-count-in-Ok.ensures)
