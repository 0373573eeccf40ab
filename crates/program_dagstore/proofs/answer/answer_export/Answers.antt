use Rattle.program_dagstore.proofs.answer.answer_export.Goals as goal

pub returns-clause-answers : goal.returns-clause-answers
returns-clause-answers g c = (c.export_meant.result, (c.end.ensures.status, c.end.ensures.told), c.export_meant.ensures.exports)
