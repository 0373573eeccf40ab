use Rattle.program_records.proofs.words.version_line.Goals as goal

pub returns : goal.returns
returns c = rw (c.as_bytes.ensures.value, c.in_ok-words.ensures.ok) at c.name_fault_line.ensures
