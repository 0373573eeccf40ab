use Rattle.std.proofs.Common.{IfOk}
use Rattle.program_index.specs.Judged.{ArePlaced}
use Rattle.program_index.proofs.Gathering.{from_first}
use Rattle.program_index.proofs.placing.place_at.Goals as goal

pub returns-in-Ok : goal.returns-in-Ok
returns-in-Ok g c = from_first (g.S.ReadAt.bytes c.args.source.now) _ (λ b. IfOk c.place_from.result (ArePlaced b)) c.in-Ok.ensures c.place_from.ensures
