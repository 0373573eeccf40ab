use Rattle.std.proofs.Common.{◌++◌, take, drop}
use Rattle.program_parts.proofs.Known.{if_known, if_some}
use Rattle.program_index.proofs.Sending.{stopped, then_all}
use Rattle.program_index.proofs.copy.send_between.Goals as goal

pub returns-in_err-write_all : goal.returns-in_err-write_all
returns-in_err-write_all g c = if_known (g.S.ReadAt.bytes c.args.source.now) (λ b known. stopped _ _ _ c.args.before.now (take c.args.count (drop c.args.begin b) ++ c.args.following.now) c.write_all.result c.from_residual.result c.from_residual.ensures.1 c.write_all.ensures.written)

pub returns : goal.returns
returns g c = if_some (g.S.ReadAt.bytes c.args.source.now) c.send_rest.ensures (λ b h. then_all _ _ _ c.args.before.now _ c.write_all.result c.in_ok-write_all.field-0 c.send_rest.result c.in_ok-write_all.was c.write_all.ensures.written h)
