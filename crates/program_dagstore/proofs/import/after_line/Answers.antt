use Rattle.program_dagstore.proofs.import.after_line.Goals as goal

pub returns : goal.returns
returns c = rw (c.as_bytes.ensures.value, c.in_ok-count.ensures.ok) at c.line_of.ensures
