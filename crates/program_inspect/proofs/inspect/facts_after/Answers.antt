use Rattle.program_inspect.proofs.Learning.{facts_listed}
use Rattle.program_inspect.proofs.inspect.facts_after.Goals as goal

pub returns-in-Ok : goal.returns-in-Ok
returns-in-Ok c = facts_listed c.facts_of.result c.args.it c.args.front.now c.args.index c.args.roots.now c.in-Ok.missing _ c.deref.ensures.value c.in-Ok.ensures.lists c.facts_of.ensures
