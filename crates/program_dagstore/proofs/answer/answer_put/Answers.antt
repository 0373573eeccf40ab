use Rattle.program_dagstore.proofs.answer.answer_put.Goals as goal

pub returns-clause-answers : goal.returns-clause-answers
returns-clause-answers g c = (c.put_block.result, (c.end.ensures.status, c.end.ensures.told), c.put_block.ensures.says)
