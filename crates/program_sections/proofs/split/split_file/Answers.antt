use Rattle.std.proofs.Common.{[], ◌∙◌}
use Rattle.dagcbor_heads.specs.Inputs.{input_reading}
use Rattle.program_sections.specs.Splitting.{making}
use Rattle.program_sections.specs.declared.split.SplitEnd.TheVariants.{Fault}
use Rattle.program_sections.proofs.Dividing.{adds_none}
use Rattle.program_sections.proofs.Ending.{ends_told, start_refused}
use Rattle.program_sections.proofs.split.split_file.Goals as goal

pub returns-in_ok-line-in-Err : goal.returns-in_ok-line-in-Err
returns-in_ok-line-in-Err g c = λ b l.
    let whole = g.N.NewFiles.whole c.args.files.now in
    let has = g.N.NewFiles.has c.args.files.now in
    ends_told c.args.asked.now b (making whole whole has) _ Fault [] c.deref-in-Err.result.now c.end_told.result _
    (start_refused c.args.asked.now has (input_reading g.R.Read.reading c.args.input.now) (input_reading g.R.Read.reading c.pull_header.new.input) c.in-Err.error b c.deref-in-Err.result.now c.in-Err.ensures.taken c.in_ok-line-in-Err.ensures.0 (c.deref-in-Err.ensures.value ∙ c.in_ok-line-in-Err.ensures.1) l)
    (adds_none whole) c.end_told.ensures
