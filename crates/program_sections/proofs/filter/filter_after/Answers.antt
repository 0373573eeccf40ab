use Rattle.dagcbor_heads.specs.Inputs.{input_reading}
use Rattle.program_sections.proofs.Filtering.{header_broke}
use Rattle.program_sections.proofs.filter.filter_after.Goals as goal

pub returns-in_err-send_roots : goal.returns-in_err-send_roots
returns-in_err-send_roots g c = λ start b h l.
    header_broke c.args.filter.now c.args.roots.now c.args.extent start (input_reading g.R.Read.reading c.args.input.now) b _ _ _ c.from_residual.result c.in_err-send_roots.field-0.0 h l c.from_residual.ensures.1 c.in_err-send_roots.ensures

pub returns : goal.returns
returns g c = λ start b h l. c.filter_sections.ensures start c.args.roots.now _ b h l c.in_ok-send_roots.ensures
