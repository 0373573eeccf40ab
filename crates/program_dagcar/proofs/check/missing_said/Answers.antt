use Rattle.program_dagcar.proofs.Saying.{missing_is_said}
use Rattle.program_dagcar.proofs.check.missing_said.Goals as goal

pub returns : goal.returns
returns c = missing_is_said c.args.check c.in_ok-missing.missing _ c.names_said.result c.deref.ensures.value c.in_ok-missing.ensures.lists c.names_said.ensures.lines c.names_said.ensures.well
