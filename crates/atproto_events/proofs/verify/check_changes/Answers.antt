use Rattle.std.proofs.Common.{subst}
use Rattle.ipld_links.specs.Reaching.{stored_in}
use Rattle.atproto_mst.specs.Changes.{changes}
use Rattle.atproto_mst.proofs.Comparing.{same_name}
use Rattle.atproto_mst.proofs.Naming.{other_name}
use Rattle.atproto_events.specs.Doing.{LeadsFrom}
use Rattle.atproto_events.proofs.verify.check_changes.Goals as goal

pub returns-then-ne : goal.returns-then-ne
returns-then-ne c = (c.in-Ok.old, c.in-Ok.ensures.undone, other_name c.in-Ok.old c.args.before.now c.ne.result c.if-ne.true c.ne.ensures)

pub returns-else-ne : goal.returns-else-ne
returns-else-ne c = subst (λ o. LeadsFrom (stored_in c.args.blocks.now) o (changes c.args.done.now) c.args.commit.now.data) (same_name c.in-Ok.old c.args.before.now c.ne.result c.if-ne.false c.ne.ensures) c.in-Ok.ensures.undone
