use Rattle.std.proofs.Common.{rules, ◌≡◌, ap, ◌∙◌, Ok}
use Rattle.program_parts.specs.declared.take.Ended.TheVariants.{Stopped}
use Rattle.program_sections.specs.Splitting.{there_line}
use Rattle.program_sections.specs.declared.part.PartFault.TheVariants.{Exists}
use Rattle.program_sections.proofs.Ending.{told_there}
use Rattle.program_sections.proofs.split.tell_split.Goals as goal

pub returns-in_ok-line-in-Stopped-Exists : goal.returns-in_ok-line-in-Stopped-Exists
returns-in_ok-line-in-Stopped-Exists g c =
    let is : c.args.ended ≡ Ok (Stopped (Exists c.in-Stopped-Exists.name)) = search rules in
    told_there c.args.ended c.in-Stopped-Exists.name c.deref-in-Stopped-Exists-2.result.now _ c.end_told-in-Stopped-Exists.result _ is
    (c.deref-in-Stopped-Exists-2.ensures.value ∙ c.in_ok-line-in-Stopped-Exists.ensures ∙ ap there_line c.deref-in-Stopped-Exists.ensures)
    c.end_told-in-Stopped-Exists.ensures
