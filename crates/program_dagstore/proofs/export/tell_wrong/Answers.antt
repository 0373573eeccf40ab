use Rattle.std.proofs.Common.{refl}
use Rattle.program_parts.proofs.Saying.{line_whole}
use Rattle.program_dagstore.proofs.export.tell_wrong.Goals as goal

pub returns : goal.returns
returns g c = (refl, line_whole _ _ c.args.line.now c.args.line.now c.in_ok-write_all.ensures.written refl)
