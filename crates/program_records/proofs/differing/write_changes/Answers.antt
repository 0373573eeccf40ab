use Rattle.std.proofs.Common.{sym, subst}
use Rattle.program_parts.proofs.Known.{if_some}
use Rattle.program_parts.proofs.Saying.{both_said}
use Rattle.program_records.specs.Differing.{IsChangesOf}
use Rattle.program_records.proofs.differing.write_changes.Goals as goal

pub returns-in-Ok : goal.returns-in-Ok
returns-in-Ok g c = if_some (g.R.Read.remaining c.args.old.now) c.in-Ok.ensures (λ b k. if_some (g.S.Read.remaining c.args.new.now) k (λ d h.
    both_said (IsChangesOf b d) c.in-Ok.said.0.items c.deref.result.now c.in-Ok.said.1 _ _ c.say_both.result _ _ (subst (λ text. IsChangesOf b d c.in-Ok.said.1 c.in-Ok.said.0.items text) (sym c.deref.ensures.value) h) c.say_both.ensures))
