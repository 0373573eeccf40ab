use Rattle.dagcbor_heads.specs.Inputs.{input_reading}
use Rattle.program_index.proofs.Gathering.{none_begun}
use Rattle.program_index.proofs.placing.place_file.Goals as goal

pub returns-in_ok-line-in-Err : goal.returns-in_ok-line-in-Err
returns-in_ok-line-in-Err g c = λ b l.
    none_begun (input_reading g.R.Read.reading c.args.input.now) (input_reading g.R.Read.reading c.pull_header.new.input) c.in-Err.error b c.in_ok-line-in-Err.line.items c.in-Err.ensures.taken c.in_ok-line-in-Err.ensures.0 c.in_ok-line-in-Err.ensures.1 l
