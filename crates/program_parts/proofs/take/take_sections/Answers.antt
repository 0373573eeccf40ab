use Rattle.dagcbor_heads.specs.Inputs.{input_reading}
use Rattle.program_parts.proofs.Taking.{left_begun, all_taken, some_taken}
use Rattle.program_parts.proofs.take.take_sections.Goals as goal

pub returns-in-Ok : goal.returns-in-Ok
returns-in-Ok g c = λ start roots h b l.
    all_taken g.S.SectionSink.takes roots b c.args.extent c.each_section.new.left (input_reading g.R.Read.reading c.args.input.now) (input_reading g.R.Read.reading c.each_section.new.input) c.args.sink.now c.each_section.new.sink _ (left_begun roots c.args.extent start _ b h l) c.in-Ok.ensures

pub returns-in-Err : goal.returns-in-Err
returns-in-Err g c = λ start roots h b l.
    some_taken g.S.SectionSink.takes roots b c.args.extent c.each_section.new.left (input_reading g.R.Read.reading c.args.input.now) (input_reading g.R.Read.reading c.each_section.new.input) c.args.sink.now c.each_section.new.sink c.in-Err.error c.ended_by.result (left_begun roots c.args.extent start _ b h l) c.in-Err.ensures c.ended_by.ensures
