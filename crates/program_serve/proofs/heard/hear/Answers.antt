use Rattle.std.proofs.Common.{rules, ◌<◌, length, sym, ◌∙◌}
use Rattle.std.proofs.lemmas.Result.{IfOk-weaker}
use Rattle.program_serve.proofs.Hearing.{hears, cut, bad}
use Rattle.program_serve.proofs.heard.hear.Goals as goal

pub returns-in_default-clause-heard : goal.returns-in_default-clause-heard
returns-in_default-clause-heard g c =
    let some : 0 < length c.read_line.new.line.items = search rules in
    cut _ _ c.read_line.new.line.items c.deref.result.now c.deref.ensures.value some c.in_default.ensures c.in_ok-read_line.ensures.read

pub returns-in_default-asked_of-clause-heard : goal.returns-in_default-asked_of-clause-heard
returns-in_default-asked_of-clause-heard g c =
    bad _ _ c.read_line.new.line.items c.deref.result.now c.in-Some.text.now c.deref.ensures.value c.in-Some.ensures c.in_default-asked_of.ensures c.in_ok-read_line.ensures.read

pub returns-clause-heard : goal.returns-clause-heard
returns-clause-heard g c =
    IfOk-weaker c.hear_asked.result _ _ (λ heard h. hears _ _ _ c.read_line.new.line.items c.in-Some.text.now (sym c.deref.ensures.value ∙ c.in-Some.ensures) c.in_ok-read_line.ensures.read c.in-Some-asked_of.asked heard _ c.in-Some-asked_of.ensures h) c.hear_asked.ensures.heard
