use Rattle.std.proofs.Common.{Bool, ◌≡◌, ◌&&◌, refl, Err}
use Rattle.program_parts.proofs.Saying.{lines_said}
use Rattle.program_dagcar.proofs.walk.say_end.Goals as goal

pub returns-in-Err-say : goal.returns-in-Err-say
returns-in-Err-say g c = λ roots sections k.
    lines_said (λ answer text. (end_well : Bool) × g.T.Teller.speech.of_end roots sections end_well text × (answer ≡ (end_well && c.args.well))) c.in-Ok.said.0.items (c.in-Ok.said.1 && c.args.well) _ _ (Err c.in-Err-say.fault) (c.in-Ok.said.1, c.in-Ok.ensures roots sections k, refl) c.in-Err-say.ensures
