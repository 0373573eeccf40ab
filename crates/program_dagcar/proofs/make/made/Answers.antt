use Rattle.std.proofs.Common.{inr, refl}
use Rattle.program_dagcar.proofs.make.made.Goals as goal

pub returns-in-Ok-cause_line : goal.returns-in-Ok-cause_line
returns-in-Ok-cause_line c = inr (c.in-Err.refusal.cause, c.in-Err.refusal.offset, c.in-Err.ensures.refused c.in_default.not-OutOfMemory, refl, c.new-in-Ok-cause_line.ensures.items, c.in-Ok-cause_line.ensures)
