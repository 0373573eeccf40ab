use Rattle.std.specs.Bool.{⊤}
use Rattle.std.proofs.Common.{inr, false, refl, sym, subst}
use Rattle.program_parts.specs.Holding.{TellsFault}
use Rattle.program_parts.proofs.Known.{if_some}
use Rattle.program_parts.proofs.Saying.{both_said}
use Rattle.program_index.specs.Indexed.{IsIndexed}
use Rattle.program_index.proofs.Sending.{both_known, both_some, said_some}
use Rattle.program_index.proofs.index.write_index.Goals as goal

pub returns-in-Ok : goal.returns-in-Ok
returns-in-Ok g c = both_known (g.S.ReadAt.bytes c.args.source.now) (rw c.in-Ok.is at c.in_ok-found.ensures) c.say_indexed.ensures (λ b gathered h.
    said_some b c.in-Ok.found (g.W.Write.contents c.args.output.now) (g.V.Write.contents c.args.errors.now) (g.W.Write.contents c.say_indexed.new.output) c.say_indexed.result gathered h)

pub returns-in-Err : goal.returns-in-Err
returns-in-Err g c = if_some (g.S.ReadAt.bytes c.args.source.now) (rw c.in-Err.is at c.in_ok-found.ensures) (λ b h.
    both_some (IsIndexed b) (g.W.Write.contents c.args.output.now) (g.V.Write.contents c.args.errors.now) c.say_both.result _ _
    (both_said (IsIndexed b) c.new.result.items c.deref.result.now false _ _ c.say_both.result _ _ (inr (refl, c.new.ensures.items, subst (TellsFault (λ ss. ⊤) b) (sym c.deref.ensures.value) h)) c.say_both.ensures))
