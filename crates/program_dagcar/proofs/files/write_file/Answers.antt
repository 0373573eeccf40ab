use Rattle.std.proofs.Common.{inr, false, refl, sym, subst}
use Rattle.std.specs.Bool.{⊤}
use Rattle.program_parts.specs.Holding.{TellsFault}
use Rattle.program_dagcar.specs.Files.{IsNoFileOfBlocks}
use Rattle.program_parts.proofs.Known.{if_some}
use Rattle.program_parts.proofs.Saying.{both_said}
use Rattle.program_dagcar.proofs.files.write_file.Goals as goal

pub returns-in-Ok-Err : goal.returns-in-Ok-Err
returns-in-Ok-Err g c = if_some (g.R.Read.remaining c.args.input.now) (rw c.in-Ok-Err.field-0-is at c.in-Ok-Err.ensures) (λ b h.
    inr (both_said (IsNoFileOfBlocks b) c.new.result.items c.deref.result.now false _ _ c.say_both.result _ _ (refl, c.new.ensures.items, subst (TellsFault (λ ss. ⊤) b) (sym c.deref.ensures.value) h) c.say_both.ensures))
