use Rattle.std.proofs.Common.{subst, sym}
use Rattle.program_parts.specs.Shown.{IsShown}
use Rattle.program_parts.proofs.Saying.{both_said}
use Rattle.program_parts.proofs.data.say_shown.Goals as goal

pub returns : goal.returns
returns g c = both_said (IsShown c.args.block.now) c.in_ok-said.said.0.items c.deref.result.now c.in_ok-said.said.1 _ _ c.say_both.result _ _ (subst (IsShown c.args.block.now c.in_ok-said.said.1 c.in_ok-said.said.0.items) (sym c.deref.ensures.value) c.in_ok-said.ensures) c.say_both.ensures
