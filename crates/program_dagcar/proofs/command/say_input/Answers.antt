use Rattle.std.proofs.Common.{ap, ◌∙◌}
use Rattle.dagcbor_heads.specs.Reading.{Reading}
use Rattle.dagcbor_heads.specs.Inputs.{not_lending}
use Rattle.program_parts.proofs.Known.{if_known}
use Rattle.program_dagcar.proofs.command.say_input.Goals as goal

pub returns-in-Some-clause-said : goal.returns-in-Some-clause-said
returns-in-Some-clause-said g c = if_known (g.R.Read.remaining c.args.input.now) (λ b l.
    c.say_file-result.ensures.said b (ap (λ (r : Reading). r.left) (c.input_over-source.ensures ∙ ap not_lending c.new.ensures) ∙ l))

pub returns-in-Some-clause-told : goal.returns-in-Some-clause-told
returns-in-Some-clause-told g c = if_known (g.R.Read.remaining c.args.input.now) (λ b l.
    c.say_file-result.ensures.told b (ap (λ (r : Reading). r.left) (c.input_over-source.ensures ∙ ap not_lending c.new.ensures) ∙ l))

pub returns-in_default-clause-said : goal.returns-in_default-clause-said
returns-in_default-clause-said g c = if_known (g.R.Read.remaining c.args.input.now) (λ b l.
    c.say_file-result.ensures.said b (ap (λ (r : Reading). r.left) (c.input_over-source.ensures ∙ ap not_lending c.new.ensures) ∙ l))

pub returns-in_default-clause-told : goal.returns-in_default-clause-told
returns-in_default-clause-told g c = if_known (g.R.Read.remaining c.args.input.now) (λ b l.
    c.say_file-result.ensures.told b (ap (λ (r : Reading). r.left) (c.input_over-source.ensures ∙ ap not_lending c.new.ensures) ∙ l))
