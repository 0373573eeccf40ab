use Rattle.program_dagstore.proofs.answer.answer_tree.Goals as goal

pub returns-clause-answers : goal.returns-clause-answers
returns-clause-answers g c = (c.write_tree-ended.result, _, c.write_tree-ended.ensures.says, (c.end.ensures.status, c.end.ensures.told))
