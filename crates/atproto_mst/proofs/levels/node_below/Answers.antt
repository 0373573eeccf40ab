use Rattle.ipld_links.specs.Reaching.{stored_in}
use Rattle.ipld_links.specs.Sets.{Among, members}
use Rattle.atproto_mst.proofs.Opening.{not_so, node_opened}
use Rattle.atproto_mst.proofs.levels.node_below.Goals as goal

pub returns : goal.returns
returns c =
    node_opened (stored_in c.args.blocks.now) (members c.args.dropped.now) c.args.link.now c.in-Some.name c.in-Some.is
    (not_so (Among c.in-Some.name (members c.args.dropped.now)) c.contains.result c.if-contains.false c.contains.ensures) c.node_at.result c.node_at.ensures
