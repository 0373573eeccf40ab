use Rattle.dagcbor_heads.specs.Inputs.{input_reading}
use Rattle.program_inspect.specs.Inspecting.{IsFound}
use Rattle.program_inspect.proofs.Learning.{after_start, start_fault}
use Rattle.program_inspect.proofs.inspect.find_file.Goals as goal

pub returns-in-Ok : goal.returns-in-Ok
returns-in-Ok g c = after_start (λ b. IsFound b c.args.front.now c.args.index) c.find_after.result (input_reading g.R.Read.reading c.args.input.now) (input_reading g.R.Read.reading c.pull_header.new.input) c.in-Ok.roots _ c.in-Ok.extent c.deref.ensures.value c.in-Ok.ensures.taken c.find_after.ensures

pub returns-in_ok-line-in-Err : goal.returns-in_ok-line-in-Err
returns-in_ok-line-in-Err g c = start_fault (input_reading g.R.Read.reading c.args.input.now) (input_reading g.R.Read.reading c.pull_header.new.input) c.in-Err.error c.in_ok-line-in-Err.line c.in-Err.ensures.taken c.in_ok-line-in-Err.ensures.0 c.in_ok-line-in-Err.ensures.1
