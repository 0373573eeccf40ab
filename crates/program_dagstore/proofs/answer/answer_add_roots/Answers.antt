use Rattle.program_dagstore.proofs.answer.answer_add_roots.Goals as goal

pub returns-clause-answers : goal.returns-clause-answers
returns-clause-answers g c = (c.add_roots.result, (c.end.ensures.status, c.end.ensures.told), c.add_roots.ensures.added)
