use Rattle.program_dagcar.proofs.check.section_answer.Goals as goal

pub returns-clause-said : goal.returns-clause-said
returns-clause-said c = λ is. (c.args.verdict.now, is, c.in_ok-said.ensures.well, c.in_ok-said.ensures.line c.args.section.now.block.now)
