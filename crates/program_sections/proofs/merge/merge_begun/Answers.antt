use Rattle.std.proofs.Common.{map, ◌∙◌}
use Rattle.program_sections.specs.MergeSteps.{place_of}
use Rattle.program_sections.proofs.Merging.{header_sent, merge_header_broke}
use Rattle.program_sections.proofs.merge.merge_begun.Goals as goal

pub returns-in_err-send_roots : goal.returns-in_err-send_roots
returns-in_err-send_roots g c = λ bs roots following same.
    merge_header_broke bs c.args.given.now c.deref.result.now roots (map (place_of g.R.Read.reading) c.args.begun.files.items) _ _ _ c.from_residual.result c.in_err-send_roots.field-0.0 following (c.deref.ensures.value ∙ same) c.from_residual.ensures.1 c.in_err-send_roots.ensures

pub returns : goal.returns
returns g c = λ bs roots following same. c.merge_sections.ensures bs c.args.given.now roots _ following (header_sent c.args.given.now c.deref.result.now roots _ _ (c.deref.ensures.value ∙ same) c.in_ok-send_roots.ensures)
