use Rattle.std.proofs.Common.{sym, subst}
use Rattle.ipld_links.specs.Reaching.{stored_in}
use Rattle.atproto_mst.specs.Changes.{changes}
use Rattle.atproto_mst.specs.Differing.{AreChangesOf}
use Rattle.atproto_mst.proofs.Comparing.{equal_name, other_name}
use Rattle.atproto_mst.proofs.Sharing.{none_of_equal, changes_of_stored}
use Rattle.atproto_mst.proofs.skipping.diff.Goals as goal

pub returns-then-eq-clause-read : goal.returns-then-eq-clause-read
returns-then-eq-clause-read c =
    subst (λ l. AreChangesOf (stored_in c.args.blocks.now) c.args.old.now c.args.new.now (changes l)) (sym c.new.ensures.items)
    (none_of_equal (stored_in c.args.blocks.now) c.args.old.now c.args.new.now (equal_name c.args.old.now c.args.new.now c.eq.result c.if-eq.true c.eq.ensures))

pub returns-then-eq-clause-whole : goal.returns-then-eq-clause-whole
returns-then-eq-clause-whole c = changes_of_stored (stored_in c.args.blocks.now) c.args.old.now c.args.new.now (changes c.new.result.items) (returns-then-eq-clause-read c)

pub returns-clause-same : goal.returns-clause-same
returns-clause-same c same = absurd (other_name c.args.old.now c.args.new.now c.eq.result c.if-eq.false c.eq.ensures same)
