use Rattle.std.proofs.Common.{◌∙◌, subst, sym}
use Rattle.program_parts.proofs.Known.{if_some}
use Rattle.program_parts.proofs.Saying.{both_said}
use Rattle.program_dagcar.proofs.answer.say_answer.Goals as goal

pub returns : goal.returns
returns g c = if_some (g.R.Read.remaining c.args.input.now) c.in_ok-bytes.ensures (λ b e.
    both_said (g.A.Answering.is_said b) c.in_ok-said.said.0.items c.deref-2.result.now c.in_ok-said.said.1 _ _ c.say_both.result _ _ (subst (λ x. g.A.Answering.is_said x c.in_ok-said.said.1 c.in_ok-said.said.0.items c.deref-2.result.now) (c.deref.ensures.value ∙ e) (subst (λ y. g.A.Answering.is_said c.deref.result.now c.in_ok-said.said.1 c.in_ok-said.said.0.items y) (sym c.deref-2.ensures.value) c.in_ok-said.ensures)) c.say_both.ensures)
