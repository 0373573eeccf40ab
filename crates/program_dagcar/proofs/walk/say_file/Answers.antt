use Rattle.std.proofs.Common.{◌∙◌, sym, refl}
use Rattle.dagcbor_heads.specs.Inputs.{input_reading}
use Rattle.dagcbor_items.specs.Walks.{forms}
use Rattle.program_shared.specs.declared.fault.ToolError.TheVariants.{OutOfMemory}
use Rattle.program_parts.specs.Lines.{refused_line}
use Rattle.program_dagcar.specs.Speeches.{beside}
use Rattle.program_dagcar.proofs.Saying.{header_said, header_silent, not_begun}
use Rattle.program_dagcar.proofs.walk.say_file.Goals as goal

pub returns-in-Ok-begin-clause-said : goal.returns-in-Ok-begin-clause-said
returns-in-Ok-begin-clause-said g c = c.say_header.ensures.said (input_reading g.R.Read.reading c.args.input.now) (forms c.in-Ok.roots.items) c.in-Ok.ensures.taken (rw c.deref.ensures.value at c.in-Ok-begin.ensures.known) (c.deref-in-Ok-begin.ensures.value ∙ rw c.deref.ensures.value at c.in-Ok-begin.ensures.said)

pub returns-in-Ok-begin-clause-told : goal.returns-in-Ok-begin-clause-told
returns-in-Ok-begin-clause-told g c = c.say_header.ensures.told (input_reading g.R.Read.reading c.args.input.now) (forms c.in-Ok.roots.items) c.in-Ok.ensures.taken (rw c.deref.ensures.value at c.in-Ok-begin.ensures.known) refl

pub returns-in-Ok-clause-said : goal.returns-in-Ok-clause-said
returns-in-Ok-clause-said g c = not_begun g.T.Teller.speech (input_reading g.R.Read.reading c.args.input.now) _ OutOfMemory

pub returns-in-Ok-clause-told : goal.returns-in-Ok-clause-told
returns-in-Ok-clause-told g c = not_begun (beside g.T.Teller.tells) (input_reading g.R.Read.reading c.args.input.now) _ OutOfMemory

pub returns-in-Ok-fault_line-clause-said : goal.returns-in-Ok-fault_line-clause-said
returns-in-Ok-fault_line-clause-said g c = header_said g.T.Teller.speech (input_reading g.R.Read.reading c.args.input.now) (input_reading g.R.Read.reading c.pull_header.new.input) (g.W.Write.contents c.args.output.now) (g.W.Write.contents c.say.new.output) c.in-Err.error _ c.say.result c.in-Err.ensures.taken c.in-Ok-fault_line.ensures.0 (c.in-Ok-fault_line.ensures.1 ∙ sym (g.met.T.Teller.says_faults (refused_line c.in-Err.error))) c.say.ensures

pub returns-in-Ok-fault_line-clause-told : goal.returns-in-Ok-fault_line-clause-told
returns-in-Ok-fault_line-clause-told g c = header_silent g.T.Teller.tells (input_reading g.R.Read.reading c.args.input.now) (input_reading g.R.Read.reading c.pull_header.new.input) (g.V.Write.contents c.args.errors.now) (g.W.Write.contents c.args.output.now) (g.W.Write.contents c.say.new.output) c.in-Err.error _ c.say.result c.in-Err.ensures.taken c.in-Ok-fault_line.ensures.0 c.say.ensures

pub returns-clause-said : goal.returns-clause-said
returns-clause-said g c = not_begun g.T.Teller.speech (input_reading g.R.Read.reading c.args.input.now) _ c.in-Err-fault_line.fault

pub returns-clause-told : goal.returns-clause-told
returns-clause-told g c = not_begun (beside g.T.Teller.tells) (input_reading g.R.Read.reading c.args.input.now) _ c.in-Err-fault_line.fault
