use Rattle.program_parts.proofs.file_names.entry_stored.Goals as goal

pub returns-in-Some : goal.returns-in-Some
returns-in-Some c = λ all held. c.entry_named.ensures all (c.in-Some.ensures all held)
