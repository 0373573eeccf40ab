use Rattle.std.proofs.Common.{sym, subst}
use Rattle.ipld_links.specs.Reaching.{ListsReachable, ListsLost, stored_in}
use Rattle.ipld_links.proofs.reach.reach_from.Goals as goal

pub returns-in_default-clause-reachable : goal.returns-in_default-clause-reachable
returns-in_default-clause-reachable c = subst (λ v. ListsReachable (stored_in c.args.blocks.now) c.args.root.now v.items) (sym c.into_reached.ensures.found) (c.in_default.ensures.next (stored_in c.args.blocks.now) c.args.root.now c.loop-count.invariant).0

pub returns-in_default-clause-lost : goal.returns-in_default-clause-lost
returns-in_default-clause-lost c = subst (λ v. ListsLost (stored_in c.args.blocks.now) c.args.root.now v.items) (sym c.into_reached.ensures.lost) (c.in_default.ensures.next (stored_in c.args.blocks.now) c.args.root.now c.loop-count.invariant).1

pub loop-count-preserved : goal.loop-count-preserved
loop-count-preserved c = c.in_ok-visit.ensures.visits (stored_in c.args.blocks.now) c.args.root.now (sym c.stored_bytes.ensures) (c.in-Some.ensures.next (stored_in c.args.blocks.now) c.args.root.now c.loop-count.invariant)

pub loop-count-init : goal.loop-count-init
loop-count-init c = c.in_ok-walk.ensures.walks (stored_in c.args.blocks.now)
