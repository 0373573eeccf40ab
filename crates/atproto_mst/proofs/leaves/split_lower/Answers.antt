use Rattle.std.proofs.Common.{◌∙◌, ap, take, drop}
use Rattle.atproto_mst.specs.Placed.{all_told}
use Rattle.atproto_mst.proofs.Runs.{lower_taken, upper_dropped}
use Rattle.atproto_mst.proofs.leaves.split_lower.Goals as goal

pub returns-clause-lower : goal.returns-clause-lower
returns-clause-lower c = ap all_told (c.split_at.ensures.front ∙ ap (λ k. take k c.args.leaves.now) c.count_lower.ensures.count) ∙ lower_taken c.args.layer c.args.leaves.now

pub returns-clause-rest : goal.returns-clause-rest
returns-clause-rest c = ap all_told (c.split_at.ensures.back ∙ ap (λ k. drop k c.args.leaves.now) c.count_lower.ensures.count) ∙ upper_dropped c.args.layer c.args.leaves.now
