use Rattle.program_records.proofs.words.other_codec_line.Goals as goal

pub returns : goal.returns
returns c = rw (c.as_bytes.ensures.value, c.in_ok-words.ensures.ok, c.in_ok-codec.ensures, c.codec.ensures) at c.name_fault_line.ensures
