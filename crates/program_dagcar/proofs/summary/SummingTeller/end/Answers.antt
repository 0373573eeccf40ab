use Rattle.program_dagcar.proofs.Summing.{summary_is_said}
use Rattle.program_dagcar.proofs.summary.SummingTeller.end.Goals as goal

pub returns : goal.returns
returns c = summary_is_said c.args.self c.in_ok-missing.missing _ c.summary_said.result c.deref.ensures.value c.in_ok-missing.ensures.lists c.summary_said.ensures.lines c.summary_said.ensures.well
