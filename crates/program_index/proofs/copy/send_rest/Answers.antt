use Rattle.program_parts.proofs.Known.{if_some}
use Rattle.program_index.proofs.Sending.{stopped, then_all}
use Rattle.program_index.proofs.copy.send_rest.Goals as goal

pub returns-in_err-copy_from : goal.returns-in_err-copy_from
returns-in_err-copy_from g c = if_some (g.S.ReadAt.bytes c.args.source.now) c.copy_from.ensures (λ b h. stopped _ _ _ _ c.args.following.now c.copy_from.result c.from_residual.result c.from_residual.ensures.1 h)

pub returns : goal.returns
returns g c = if_some (g.S.ReadAt.bytes c.args.source.now) c.copy_from.ensures (λ b h. then_all _ _ _ _ c.args.following.now c.copy_from.result c.in_ok-copy_from.field-0 c.write_all.result c.in_ok-copy_from.was h c.write_all.ensures.written)
