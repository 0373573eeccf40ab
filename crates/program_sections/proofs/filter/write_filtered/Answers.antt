use Rattle.std.proofs.Common.{ap, ◌∙◌}
use Rattle.dagcbor_heads.specs.Reading.{Reading}
use Rattle.dagcbor_heads.specs.Inputs.{not_lending}
use Rattle.program_parts.proofs.Known.{if_known}
use Rattle.program_sections.proofs.filter.write_filtered.Goals as goal

pub returns : goal.returns
returns g c = if_known (g.R.Read.remaining c.args.input.now) (λ b l.
    c.filter_file.ensures b (ap (λ (r : Reading). r.left) (c.input_over-source.ensures ∙ ap not_lending c.new.ensures) ∙ l))
