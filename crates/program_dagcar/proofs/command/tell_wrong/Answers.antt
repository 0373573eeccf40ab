use Rattle.std.proofs.Common.{◌≡◌, List, ℕ, Result, ap, ◌∙◌, subst}
use Rattle.program_shared.specs.Writing.{WritesFront}
use Rattle.program_shared.specs.declared.fault.ToolError.{ToolError}
use Rattle.program_parts.specs.Lines.{no_cid_line}
use Rattle.program_dagcar.proofs.command.tell_wrong.Goals as goal

pub returns-in-Some-clause-told : goal.returns-in-Some-clause-told
returns-in-Some-clause-told g c = λ e m.
    let found = c.in-Some.ensures e m in
    let same : c.in-Some.fault ≡ e = cc found in
    subst (λ (x : List ℕ). (told : Result (Unit {0}) ToolError) × WritesFront (g.V.Write.contents c.args.errors.now) (g.V.Write.contents c.give_up.new.errors) told x) (c.no_cid_line.ensures ∙ ap no_cid_line same) c.give_up.ensures.told

pub returns-in-None-clause-told : goal.returns-in-None-clause-told
returns-in-None-clause-told g c = λ e m. let found = c.in-None.ensures e m in absurd (cc found)
