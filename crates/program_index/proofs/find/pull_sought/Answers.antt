use Rattle.std.proofs.Common.{Some}
use Rattle.dagcbor_heads.specs.Inputs.{input_reading}
use Rattle.program_index.proofs.Finding.{gives_map, sought_taken, sought_section, sought_refused}
use Rattle.program_index.proofs.find.pull_sought.Goals as goal

pub returns-in-Ok-Some-clause-sought : goal.returns-in-Ok-Some-clause-sought
returns-in-Ok-Some-clause-sought g c = λ b l. gives_map c.block_sought.result c.block_sought.ensures.sought (λ h.
    sought_section c.args.name.now c.section-in-Ok-Some.result.cid c.section-in-Ok-Some.result.block.now c.in-Ok-Some.section c.section-in-Ok-Some.ensures.cid c.section-in-Ok-Some.ensures.block
    (sought_taken c.args.name.now c.args.length (Some c.args.length) _ (input_reading g.R.Read.reading c.args.input.now) (input_reading g.R.Read.reading c.pull_section.new.input) c.in-Ok-Some.section b (rw c.in-Ok-Some.field-0-is at c.in-Ok-Some.ensures.taken) l h))

pub returns-in_ok-unread-in-Err-clause-sought : goal.returns-in_ok-unread-in-Err-clause-sought
returns-in_ok-unread-in-Err-clause-sought g c = λ b l h.
    sought_refused c.args.name.now c.args.length (input_reading g.R.Read.reading c.args.input.now) (input_reading g.R.Read.reading c.pull_section.new.input) c.in-Err.error b c.in_ok-unread-in-Err.ensures c.in-Err.ensures.taken l h
