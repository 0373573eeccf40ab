use Rattle.program_dagstore.proofs.answer.answer_collect.Goals as goal

pub returns-clause-answers : goal.returns-clause-answers
returns-clause-answers g c = (c.collect_meant-ended.result, _, c.collect_meant-ended.ensures.says, (c.end.ensures.status, c.end.ensures.told))
