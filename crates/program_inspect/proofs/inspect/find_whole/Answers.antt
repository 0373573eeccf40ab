use Rattle.std.proofs.Common.{ap, ◌∙◌}
use Rattle.dagcbor_heads.specs.Reading.{Reading}
use Rattle.dagcbor_heads.specs.Inputs.{not_lending}
use Rattle.program_parts.proofs.Known.{if_known}
use Rattle.program_parts.proofs.Taking.{of_known}
use Rattle.program_inspect.specs.Inspecting.{IsFound}
use Rattle.program_inspect.proofs.inspect.find_whole.Goals as goal

pub returns : goal.returns
returns g c = if_known (g.R.Read.remaining c.args.input.now) (λ b l.
    of_known (λ b found. IsFound b c.args.front.now c.args.index found) c.find_file.result _ c.find_file.ensures b
    (ap (λ (r : Reading). r.left) (c.input_over-source.ensures ∙ ap not_lending c.new.ensures) ∙ l))
