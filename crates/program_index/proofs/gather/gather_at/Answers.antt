use Rattle.std.proofs.Common.{IfOk}
use Rattle.program_index.specs.Steps.{Gathers}
use Rattle.program_index.proofs.Gathering.{from_first}
use Rattle.program_index.proofs.gather.gather_at.Goals as goal

pub returns-in-Ok : goal.returns-in-Ok
returns-in-Ok g c = from_first (g.S.ReadAt.bytes c.args.source.now) _ (λ b. IfOk c.gather_from.result (Gathers b)) c.in-Ok.ensures c.gather_from.ensures
