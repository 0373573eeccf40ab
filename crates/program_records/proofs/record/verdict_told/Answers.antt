use Rattle.program_parts.specs.Lines.{verdict_line}
use Rattle.program_records.proofs.Telling.{told_as}
use Rattle.program_records.proofs.record.verdict_told.Goals as goal

pub returns : goal.returns
returns c = λ bytes. told_as c.in_ok-line.line.items (verdict_line ((c.args.name.now, bytes), c.args.verdict.now)) _ _ _ (c.in_ok-line.ensures.line bytes) c.told_alone.ensures
