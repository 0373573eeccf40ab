use Rattle.std.proofs.Common.{false, inl, refl, ◌∙◌}
use Rattle.dagcbor_heads.specs.Inputs.{input_reading}
use Rattle.program_sections.specs.Filtering.{IsFiltered, IsFilteredFront}
use Rattle.program_sections.proofs.Sending.{none_said, both_sent}
use Rattle.program_sections.proofs.Filtering.{start_refused}
use Rattle.program_sections.proofs.filter.filter_file.Goals as goal

pub returns-in_err-line-in-Err : goal.returns-in_err-line-in-Err
returns-in_err-line-in-Err g c = λ b l. none_said (IsFilteredFront c.args.filter.now b) (IsFiltered c.args.filter.now b) _ _ c.from_residual.result c.in_err-line-in-Err.field-0.0 (inl refl) c.from_residual.ensures.1

pub returns-in_ok-line-in-Err : goal.returns-in_ok-line-in-Err
returns-in_ok-line-in-Err g c = λ b l.
    both_sent (IsFilteredFront c.args.filter.now b) (IsFiltered c.args.filter.now b) c.new.result.items c.deref-in-Err.result.now false _ _ c.say_both.result _ _ c.new.ensures.items (inl refl)
    (start_refused c.args.filter.now (input_reading g.R.Read.reading c.args.input.now) (input_reading g.R.Read.reading c.pull_header.new.input) c.in-Err.error b c.deref-in-Err.result.now c.in-Err.ensures.taken c.in_ok-line-in-Err.ensures.0 (c.deref-in-Err.ensures.value ∙ c.in_ok-line-in-Err.ensures.1) l)
    c.say_both.ensures
