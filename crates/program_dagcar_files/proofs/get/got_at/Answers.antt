use Rattle.std.proofs.Common.{IfOk}
use Rattle.program_dagcar.specs.Finding.{IsGot}
use Rattle.program_dagcar_files.proofs.Getting.{from_first}
use Rattle.program_dagcar_files.proofs.get.got_at.Goals as goal

pub returns-in-Ok : goal.returns-in-Ok
returns-in-Ok g c = from_first (g.S.ReadAt.bytes c.args.source.now) _ (λ b. IfOk c.got.result (λ p. IsGot c.args.name.now b p.0.1 p.0.0.items p.1.items)) c.in-Ok.ensures c.got.ensures
