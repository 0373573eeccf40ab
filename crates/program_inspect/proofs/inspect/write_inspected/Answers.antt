use Rattle.std.proofs.Common.{inl, inr, refl, sym, subst, take}
use Rattle.program_parts.proofs.Saying.{both_said}
use Rattle.std.specs.Prelude.{⊤}
use Rattle.program_parts.specs.Holding.{TellsFault}
use Rattle.program_parts.proofs.Known.{if_some}
use Rattle.program_inspect.specs.Inspecting.{IsFound, IsInspected}
use Rattle.program_inspect.proofs.inspect.write_inspected.Goals as goal

pub returns-in_ok-text-in-Ok : goal.returns-in_ok-text-in-Ok
returns-in_ok-text-in-Ok g c = if_some (g.R.Read.remaining c.args.input.now) c.in_ok-found.ensures (λ b h.
    both_said (IsInspected c.args.form c.args.index b) _ _ _ _ _ c.say_both.result _ _ (inl (c.in-Ok.facts, subst (IsFound b (take 51 b) c.args.index) c.in-Ok.is h, refl, c.in_ok-text-in-Ok.ensures, refl)) c.say_both.ensures)

pub returns-in-Err : goal.returns-in-Err
returns-in-Err g c = if_some (g.R.Read.remaining c.args.input.now) c.in_ok-found.ensures (λ b h.
    both_said (IsInspected c.args.form c.args.index b) _ _ _ _ _ c.say_both-in-Err.result _ _ (inr (refl, c.new.ensures.items, subst (λ line. TellsFault (λ ss. ⊤) b line) (sym c.deref.ensures.value) (subst (IsFound b (take 51 b) c.args.index) c.in-Err.is h))) c.say_both-in-Err.ensures)
