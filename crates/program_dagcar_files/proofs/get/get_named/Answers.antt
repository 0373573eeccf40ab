use Rattle.std.proofs.Common.{subst, sym}
use Rattle.program_parts.proofs.Known.{if_some}
use Rattle.program_parts.proofs.Saying.{both_said}
use Rattle.program_dagcar_files.specs.Gets.{IsGotNamed}
use Rattle.program_dagcar_files.proofs.get.get_named.Goals as goal

pub returns : goal.returns
returns g c = if_some (g.S.ReadAt.bytes c.args.source.now) c.in_ok-said.ensures (λ b h.
    both_said (IsGotNamed c.args.name.now b) c.in_ok-said.said.0.items c.deref.result.now c.in_ok-said.said.1 _ _ c.say_both.result _ _ (subst (IsGotNamed c.args.name.now b c.in_ok-said.said.1 c.in_ok-said.said.0.items) (sym c.deref.ensures.value) (h c.in_ok-found.ensures)) c.say_both.ensures)
