use Rattle.ipld_links.specs.Reaching.{Walks, stored_in}
use Rattle.ipld_links.proofs.reach.reach_from.Given as goal

abbrev pub invariant-loop-count : goal.invariant-loop-count
invariant-loop-count l = Walks (stored_in l.blocks) l.root l.walk
