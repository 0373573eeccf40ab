use Rattle.program_dagstore.proofs.answer.answer_has.Goals as goal

pub returns-clause-answers : goal.returns-clause-answers
returns-clause-answers g c = (c.has_block.result, (c.end.ensures.status, c.end.ensures.told), c.has_block.ensures.has)
