use Rattle.std.proofs.Common.{inr, refl}
use Rattle.program_parts.proofs.entries.listed_stored.Goals as goal

pub returns-in-Ok : goal.returns-in-Ok
returns-in-Ok c = λ all stored. c.listed_of.ensures all (c.in-Ok.ensures all stored)

pub returns-in_ok-line-in-Err : goal.returns-in_ok-line-in-Err
returns-in_ok-line-in-Err c = λ all stored.
    inr (c.in-Err.stop, c.in-Err.ensures all stored, refl, c.new.ensures.items, c.in_ok-line-in-Err.ensures)
