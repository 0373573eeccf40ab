use Rattle.atproto_events.proofs.Building.{split_at_lower, split_at_upper}
use Rattle.atproto_events.proofs.pieces.split_lower.Goals as goal

pub returns-clause-lower : goal.returns-clause-lower
returns-clause-lower c = split_at_lower c.args.layer c.count_lower.result c.args.all.now c.split_at.result.0.now c.count_lower.ensures.count c.split_at.ensures.front

pub returns-clause-rest : goal.returns-clause-rest
returns-clause-rest c = split_at_upper c.args.layer c.count_lower.result c.args.all.now c.split_at.result.1.now c.count_lower.ensures.count c.split_at.ensures.back
