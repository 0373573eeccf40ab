use Rattle.std.proofs.Common.{subst, sym}
use Rattle.program_dagcar.specs.Finding.{IsGot}
use Rattle.program_parts.proofs.Known.{if_some}
use Rattle.program_parts.proofs.Saying.{both_said}
use Rattle.program_dagcar.proofs.get.get_block.Goals as goal

pub returns : goal.returns
returns g c = if_some (g.R.Read.remaining c.args.input.now) c.in_ok-said.ensures (λ b h.
    both_said (IsGot c.args.name.now b) c.in_ok-said.said.0.items c.deref.result.now c.in_ok-said.said.1 _ _ c.say_both.result _ _ (subst (IsGot c.args.name.now b c.in_ok-said.said.1 c.in_ok-said.said.0.items) (sym c.deref.ensures.value) h) c.say_both.ensures)
