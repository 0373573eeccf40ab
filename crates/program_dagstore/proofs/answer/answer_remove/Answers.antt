use Rattle.program_dagstore.proofs.answer.answer_remove.Goals as goal

pub returns-clause-answers : goal.returns-clause-answers
returns-clause-answers g c = (c.remove_blocks-ended.result, _, c.remove_blocks-ended.ensures.says, (c.end.ensures.status, c.end.ensures.told))
