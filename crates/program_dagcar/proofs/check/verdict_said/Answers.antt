use Rattle.program_parts.proofs.Saying.{known_anyway}
use Rattle.program_dagcar.proofs.check.verdict_said.Goals as goal

pub returns-in-Ok-clause-taken : goal.returns-in-Ok-clause-taken
returns-in-Ok-clause-taken c = known_anyway c.section_answer.result c.in-Ok.ensures.after
