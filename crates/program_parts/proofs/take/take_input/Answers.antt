use Rattle.std.proofs.Common.{ap, ◌∙◌}
use Rattle.dagcbor_heads.specs.Reading.{Reading}
use Rattle.dagcbor_heads.specs.Inputs.{not_lending}
use Rattle.program_parts.specs.Taking.{TakesAll}
use Rattle.program_parts.proofs.Known.{if_known}
use Rattle.program_parts.proofs.Taking.{of_known}
use Rattle.program_parts.proofs.take.take_input.Goals as goal

pub returns-in-Some : goal.returns-in-Some
returns-in-Some g c = if_known (g.R.Read.remaining c.args.input.now) (λ b l.
    of_known (λ b e. TakesAll g.S.SectionSink.takes b c.args.sink.now e c.take_file-result.new.sink) c.take_file-result.result _ c.take_file-result.ensures b
    (ap (λ (r : Reading). r.left) (c.input_over-source.ensures ∙ ap not_lending c.new.ensures) ∙ l))

pub returns-in_default : goal.returns-in_default
returns-in_default g c = if_known (g.R.Read.remaining c.args.input.now) (λ b l.
    of_known (λ b e. TakesAll g.S.SectionSink.takes b c.args.sink.now e c.take_file-result.new.sink) c.take_file-result.result _ c.take_file-result.ensures b
    (ap (λ (r : Reading). r.left) (c.input_over-source.ensures ∙ ap not_lending c.new.ensures) ∙ l))
