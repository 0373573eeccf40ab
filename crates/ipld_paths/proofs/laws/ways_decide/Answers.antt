use Rattle.ipld_paths.proofs.Deciding.{ends_decided, items_decided}
use Rattle.ipld_paths.proofs.laws.ways_decide.Goals as goal

pub returns-clause-ends : goal.returns-clause-ends
returns-clause-ends c = ends_decided

pub returns-clause-items : goal.returns-clause-items
returns-clause-items c = items_decided
