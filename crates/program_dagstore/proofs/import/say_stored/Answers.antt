use Rattle.std.proofs.Common.{refl, subst}
use Rattle.std.proofs.lemmas.Result.{err_from_is_err_and}
use Rattle.program_parts.specs.Lines.{TextFails}
use Rattle.program_dagstore.proofs.import.say_stored.Goals as goal

pub returns-in_err-lines : goal.returns-in_err-lines
returns-in_err-lines g c =
    let p = err_from_is_err_and c.from_residual.result c.from_residual.ensures.1 in
    rw (p.1, p.2) refl

pub returns-in_err-well : goal.returns-in_err-well
returns-in_err-well g c =
    let p = err_from_is_err_and c.from_residual-in_err-well.result c.from_residual-in_err-well.ensures.1 in
    rw (p.1, p.2) (subst (λ text. TextFails text (g.W.Write.contents c.args.output.now) c.in_err-well.field-0.0 (g.W.Write.contents c.say.new.output)) c.in_ok-lines.ensures c.in_err-well.ensures)
