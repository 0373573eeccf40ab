use Rattle.dagcbor_heads.specs.Inputs.{input_reading}
use Rattle.program_parts.proofs.Taking.{after_header, not_begun}
use Rattle.program_parts.proofs.take.take_file.Goals as goal

pub returns-in_ok-ended-in-Ok : goal.returns-in_ok-ended-in-Ok
returns-in_ok-ended-in-Ok g c = after_header g.S.SectionSink.takes c.in-Ok.extent (input_reading g.R.Read.reading c.args.input.now) (input_reading g.R.Read.reading c.pull_header.new.input) c.in-Ok.roots c.args.sink.now c.take_sections.new.sink c.in_ok-ended-in-Ok.ended c.in-Ok.ensures.taken c.in_ok-ended-in-Ok.ensures

pub returns-in_ok-line-in-Err : goal.returns-in_ok-line-in-Err
returns-in_ok-line-in-Err g c = not_begun g.S.SectionSink.takes (input_reading g.R.Read.reading c.args.input.now) (input_reading g.R.Read.reading c.pull_header.new.input) c.args.sink.now c.in-Err.error c.in_ok-line-in-Err.line c.new.result c.in-Err.ensures.taken c.in_ok-line-in-Err.ensures.0 c.in_ok-line-in-Err.ensures.1 c.new.ensures.items
