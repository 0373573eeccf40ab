use Rattle.program_dagstore.proofs.answer.answer_drop_roots.Goals as goal

pub returns-clause-answers : goal.returns-clause-answers
returns-clause-answers g c = (c.drop_roots-ended.result, _, c.drop_roots-ended.ensures.says, (c.end.ensures.status, c.end.ensures.told))
