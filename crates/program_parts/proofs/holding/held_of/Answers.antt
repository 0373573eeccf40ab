use Rattle.std.proofs.Common.{subst}
use Rattle.program_parts.proofs.Known.{if_some}
use Rattle.program_parts.proofs.Keeping.{HeldOf, held_of}
use Rattle.program_parts.proofs.holding.held_of.Goals as goal

pub returns-in-Whole : goal.returns-in-Whole
returns-in-Whole g c = if_some (g.R.Read.remaining c.args.input.now) c.in_ok-roots.ensures (λ b h.
    subst (λ e. HeldOf c.args.kept b c.in_ok-roots.roots e c.take_input.new.sink) c.in-Whole.is (held_of b _ c.take_input.new.sink c.in_ok-roots.roots c.in_ok-roots.ended c.new.ensures.empty h))

pub returns-in-Fault : goal.returns-in-Fault
returns-in-Fault g c = if_some (g.R.Read.remaining c.args.input.now) c.in_ok-roots.ensures (λ b h.
    subst (λ e. HeldOf c.args.kept b c.in_ok-roots.roots e c.take_input.new.sink) c.in-Fault.is (held_of b _ c.take_input.new.sink c.in_ok-roots.roots c.in_ok-roots.ended c.new.ensures.empty h))
