use Rattle.std.proofs.Common.{sym, subst}
use Rattle.ipld_links.specs.Reaching.{ListsReachable}
use Rattle.dagcbor_blocks.specs.Blocks.{held_blocks}
use Rattle.dagcbor_blocks.specs.Reaching.{stored}
use Rattle.dagcbor_blocks.proofs.Reaching.{none_reachable}
use Rattle.dagcbor_blocks.proofs.store.Blocks.reachable.Goals as goal

pub returns-then-not-may_lead-clause-reachable : goal.returns-then-not-may_lead-clause-reachable
returns-then-not-may_lead-clause-reachable c = subst (ListsReachable (stored (held_blocks c.args.self.now)) c.args.root.now) (sym c.new.ensures.items) (none_reachable (held_blocks c.args.self.now) c.args.root.now (rw c.if-not-may_lead.true at c.may_lead.ensures))
