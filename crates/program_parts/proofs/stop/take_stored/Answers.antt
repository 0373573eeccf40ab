use Rattle.program_parts.proofs.stop.take_stored.Goals as goal

pub returns-in-Some : goal.returns-in-Some
returns-in-Some c = λ all below w held next. c.take_named.ensures all below w next (c.in-Some.ensures all held)
