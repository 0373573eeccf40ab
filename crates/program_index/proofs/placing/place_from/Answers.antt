use Rattle.std.proofs.Common.{ap, ◌∙◌}
use Rattle.dagcbor_heads.specs.Reading.{Reading}
use Rattle.dagcbor_heads.specs.Inputs.{not_lending}
use Rattle.program_parts.proofs.Known.{if_known}
use Rattle.program_index.proofs.placing.place_from.Goals as goal

pub returns-in-Some : goal.returns-in-Some
returns-in-Some g c = if_known (g.R.Read.remaining c.args.input.now) (λ b l.
    c.place_file-result.ensures b (ap (λ (r : Reading). r.left) (c.input_over-source.ensures ∙ ap not_lending c.new.ensures) ∙ l))

pub returns-in_default : goal.returns-in_default
returns-in_default g c = if_known (g.R.Read.remaining c.args.input.now) (λ b l.
    c.place_file-result.ensures b (ap (λ (r : Reading). r.left) (c.input_over-source.ensures ∙ ap not_lending c.new.ensures) ∙ l))
